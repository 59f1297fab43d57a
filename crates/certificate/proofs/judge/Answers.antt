-- `judge` meets its contract by those of `begin`, `feed` and `finish`. Assumes nothing.
use mathlib.Core.Path.{sym, ◌∙◌}
use Rattle.certificate.proofs.judge.Goals as goal

pub returns : goal.returns
returns c =
    let b = c.begin-s.ensures in
    let f = c.feed-t.ensures in
    let o = c.finish.ensures in record {
      result_value = o.result_value ∙ f.opening_value ∙ b.opening_value.0;
      no_draw = λ e. o.no_draw _ _ _ _ (f.by_index _ b.stands) e;
      text_unchanged = λ n.
          let x = b.text_unchanged (λ z. n (sym b.opening_value.0 ∙ z)) in
          let y = f.store_unchanged (λ z. n (sym b.opening_value.0 ∙ z)) in
          (x.0, y.0 ∙ x.1, y.1 ∙ x.2, y.2 ∙ x.3);
    }
