-- `certify` judges, and clears the buffers where the certificate was read. Assumes nothing.
use mathlib.Core.Path.{sym, ap, ◌∙◌}
use borrow.Author.Rules.{rules}
use Rattle.certificate.specs.NoDraw.{is_open}
use Rattle.certificate.proofs.Answer.{left-cleared, left-unchanged, not_open, opening-told}
use Rattle.certificate.proofs.certify.Goals as goal

pub returns-then-not-is_open : goal.returns-then-not-is_open
returns-then-not-is_open c =
    let j = c.judge-v.ensures in
    let shut = sym (c.is_open.ensures ∙ ap is_open j.result_value) ∙ c.if-not-is_open.true in
    let x = j.text_unchanged (not_open _ shut) in
    record { result_value = opening-told _ _ j.result_value; no_draw = j.no_draw; text_after = (left-unchanged _ _ _ shut x.0, left-unchanged _ _ _ shut x.1, left-unchanged _ _ _ shut x.2, left-unchanged _ _ _ shut x.3) }

pub returns : goal.returns
returns c =
    let j = c.judge-v.ensures in
    let yes = sym (c.is_open.ensures ∙ ap is_open j.result_value) ∙ c.if-not-is_open.false in
    let z = c.clear.ensures in record {
      result_value = opening-told _ _ j.result_value;
      no_draw = j.no_draw;
      text_after = (
        left-cleared _ _ _ yes _ z.0 (search rules),
        left-cleared _ _ _ yes _ z.1 (search rules),
        left-cleared _ _ _ yes _ z.2 (search rules),
        left-cleared _ _ _ yes _ z.3 (search rules),
      );
    }
