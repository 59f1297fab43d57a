-- One name that opens every definition: `unfolding defs` lets a worked example compute.
use Rattle.model.specs.Words.{full, less, size_in, size, inside, bit, has, word_where}
use Rattle.model.specs.Limits.{groups_for}
use Rattle.model.specs.Clauses.{member_count, short_clauses, union_clauses, member_clauses, is_difference, rule_clauses, of_group, groups_of, clauses_of}
use Rattle.model.specs.Model.{zero_group, zero_constraint, zero_model, table_of, constraints_of, group_at, member_at, with_table, group_in_range, code_in_range, constraint_in_range, in_range}
use Rattle.model.specs.Sheet.{field_at, number_of, field_value, number_in, value_at, is_mark_column, good_field, form_refusal, head_refusal, with_head, mark_at, group_refusal, group_from, with_group, first_group, count_from, group_count, constraint_from, constraint_refusal, with_constraint, line_refusal, with_line, refused_sheet, after_last, read_sheet}
use Rattle.model.specs.LimitRules.{raised, lowered, low_at_least, high_at_most, high_at_most_sum, low_first, high_first, union_limits, limits_of, limit_rules}
use Rattle.model.specs.Difference.{unlike, unlike_in, lone, may_differ, apart, is_apart}
use Rattle.model.specs.Propagate.{limited, cut, filled, group_rule, false_in, all_false, fixed_with, possible_without, made_true, literal_rule, clause_rules, clause_rule, scope, constraint_rule, group_rule_at, rules, pass, group_consistent, consistent, tenable, same_group, same_table, iterate, outcome, refused_propagation, propagated, is_fixpoint, unsettled_or}
use Rattle.model.specs.Totalizer.{opposite, keep, up, down, formed, node_terms, put_in, dropped, row_clauses, node_clauses, shape_in, shape, nodes, unit, unit_clauses, tree_blocks, totalizer_blocks, clause_count_in, tree_clause_count, output_count_in, tree_output_count}
use Rattle.model.specs.Cnf.{open_of, open_count, at_least, at_most, counted, outputs_of, first_variable, first_output, variable_of, table_variables, either_open, is_open_difference, differing, difference_count, first_difference, variable_count, group_blocks, membership, difference, constraint_term, clauses_at, last_clause, constraint_clauses, line_clauses, node_blocks, block_clauses, block_count, clauses, group_clause_count, clause_count}
use Rattle.model.specs.Text.{digits, decimal, field_text, literal_text, clause_text, header_text, block_text, listing, has_empty_clause, block_refusal, written_block, block_buffer}
use Rattle.model.specs.SheetText.{head_fields, mark_of, group_fields, constraint_fields, sheet_fields, line_text, sheet_text, clean_constraint, clean_model, sheet_refusal, written_sheet, sheet_buffer}
use Rattle.model.specs.Dimacs.{is_blank, tokens, natural, number, is_comment, with_header, read_dimacs}
use Rattle.model.specs.Assignment.{variable_in, word_value, nothing_said, form_of, is_said, with_value, has_minus, variable_said, is_zero, is_passed_over, call_refusal, is_taken, line_read, values_after}
use Rattle.model.specs.Close.{clause_true, satisfying, group_by, groups_by, closed_groups, assignment_of, close_refusal, closed}
use Rattle.model.specs.Solution.{allowed, union, meaning, set_of, constraint_true, is_solution, all_tables, solutions}
use Rattle.model.specs.Fill.{open_values, output_values, one_of, difference_values, assignment_for, values_of, fill_refusal, filled_values}
use Rattle.model.specs.Combine.{combined_group, both_of, combined_model, fits, combine_refusal, combined}
use Rattle.model.specs.Demand.{group_within, within, unchanged, is_candidate, text_of, is_assignment, is_satisfying, fresh_reading, is_fresh, reading_after, values_after_all, names, refusal_after, say_line, says}

unfoldable pub defs : Unit {0}
unfolding groups_for full less size_in size inside bit has word_where member_count short_clauses union_clauses member_clauses is_difference rule_clauses of_group groups_of clauses_of zero_group zero_constraint zero_model table_of constraints_of group_at member_at with_table group_in_range code_in_range constraint_in_range in_range field_at number_of field_value number_in value_at is_mark_column good_field form_refusal head_refusal with_head mark_at group_refusal group_from with_group first_group count_from group_count constraint_from constraint_refusal with_constraint line_refusal with_line refused_sheet after_last read_sheet raised lowered low_at_least high_at_most high_at_most_sum low_first high_first union_limits limits_of limit_rules unlike unlike_in lone may_differ apart is_apart limited cut filled group_rule false_in all_false fixed_with possible_without made_true literal_rule clause_rules clause_rule scope constraint_rule group_rule_at rules pass group_consistent consistent tenable same_group same_table iterate outcome refused_propagation propagated is_fixpoint unsettled_or opposite keep up down formed node_terms put_in dropped row_clauses node_clauses shape_in shape nodes unit unit_clauses tree_blocks totalizer_blocks clause_count_in tree_clause_count output_count_in tree_output_count open_of open_count at_least at_most counted outputs_of first_variable first_output variable_of table_variables either_open is_open_difference differing difference_count first_difference variable_count group_blocks membership difference constraint_term clauses_at last_clause constraint_clauses line_clauses node_blocks block_clauses block_count clauses group_clause_count clause_count digits decimal field_text literal_text clause_text header_text block_text listing has_empty_clause block_refusal written_block block_buffer head_fields mark_of group_fields constraint_fields sheet_fields line_text sheet_text clean_constraint clean_model sheet_refusal written_sheet sheet_buffer is_blank tokens natural number is_comment with_header read_dimacs variable_in word_value nothing_said form_of is_said with_value has_minus variable_said is_zero is_passed_over call_refusal is_taken line_read values_after clause_true satisfying group_by groups_by closed_groups assignment_of close_refusal closed allowed union meaning set_of constraint_true is_solution all_tables solutions open_values output_values one_of difference_values assignment_for values_of fill_refusal filled_values combined_group both_of combined_model fits combine_refusal combined group_within within unchanged is_candidate text_of is_assignment is_satisfying fresh_reading is_fresh reading_after values_after_all names refusal_after say_line says
defs = tt
