-- `refusal` asks for 20, 31, 32 and 33 in this order. Assumes nothing.
use mathlib.Core.Path.{sym, ap, ◌∙◌}
use native.Mathlib.Omega.{arith}
use Rattle.combine.specs.declared.Clash.{Clash}
use Rattle.combine.proofs.Entry.{first_out, second-out, other-entrants, other-groups, clash-given, too_many_lem, none-due}
use Rattle.combine.proofs.refusal.Goals as goal

pub returns-then-not-in_range : goal.returns-then-not-in_range
returns-then-not-in_range c =
    first_out c.args.a c.args.b (sym c.in_range.ensures ∙ c.if-not-in_range.true)

pub returns-then-not-in_range-2 : goal.returns-then-not-in_range-2
returns-then-not-in_range-2 c =
    second-out c.args.a c.args.b (sym c.in_range.ensures ∙ c.if-not-in_range.false)
    (sym c.in_range-2.ensures ∙ c.if-not-in_range-2.true)

pub returns-then-a-b : goal.returns-then-a-b
returns-then-a-b c =
    let p = sym c.in_range.ensures ∙ c.if-not-in_range.false in
    let q = sym c.in_range-2.ensures ∙ c.if-not-in_range-2.false in
    other-entrants c.args.a c.args.b p q c.if-a-b.true

pub returns-then-a-b-2 : goal.returns-then-a-b-2
returns-then-a-b-2 c =
    let p = sym c.in_range.ensures ∙ c.if-not-in_range.false in
    let q = sym c.in_range-2.ensures ∙ c.if-not-in_range-2.false in
    other-groups c.args.a c.args.b p q c.if-a-b.false c.if-a-b-2.true

pub returns-then-group-ne0 : goal.returns-then-group-ne0
returns-then-group-ne0 c =
    let p = sym c.in_range.ensures ∙ c.if-not-in_range.false in
    let q = sym c.in_range-2.ensures ∙ c.if-not-in_range-2.false in
    let e = ap (λ (k : Clash). k.group) c.first_clash-first.ensures in
    clash-given c.args.a c.args.b p q c.if-a-b.false c.if-a-b-2.false (λ z. c.if-group-ne0.true (e ∙ z))

pub returns-then-lines-gt-CONSTRAINTS : goal.returns-then-lines-gt-CONSTRAINTS
returns-then-lines-gt-CONSTRAINTS c =
    let p = sym c.in_range.ensures ∙ c.if-not-in_range.false in
    let q = sym c.in_range-2.ensures ∙ c.if-not-in_range-2.false in
    let e = ap (λ (k : Clash). k.group) c.first_clash-first.ensures in
    let w = c.requires in
    too_many_lem c.args.a c.args.b p q c.if-a-b.false c.if-a-b-2.false (w.0.groups ∙ sym w.1.groups) (sym e ∙ c.if-group-ne0.false) c.if-lines-gt-CONSTRAINTS.true

pub returns : goal.returns
returns c =
    let p = sym c.in_range.ensures ∙ c.if-not-in_range.false in
    let q = sym c.in_range-2.ensures ∙ c.if-not-in_range-2.false in
    let e = ap (λ (k : Clash). k.group) c.first_clash-first.ensures in
    let w = c.requires in
    none-due c.args.a c.args.b p q c.if-a-b.false c.if-a-b-2.false (w.0.groups ∙ sym w.1.groups) (sym e ∙ c.if-group-ne0.false) (omega arith)
