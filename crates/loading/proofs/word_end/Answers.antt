-- `word_end` is the place of the first space or byte 10, or the length. Assumes nothing.
use mathlib.Core.Path.{refl, ap, ◌∙◌}
use mathlib.Core.Bool.{Bool, ◌||◌, not}
use Prim.Native.Nat.{ℕ}
use native.Mathlib.Omega.{arith}
use borrow.Author.Rules.{rules}
use borrow.Author.Tests.{tests}
use lib.Dec.{eqb}
use lib.ListN.{length}
use Rattle.std.specs.Option.{unwrap_or}
use Rattle.std.proofs.lemmas.Iterator.{YieldsList-from_slice}
use Rattle.std.proofs.lemmas.Iterator.Search.{position_from_yields_List}
use Rattle.std.proofs.lemmas.List.Sums.{prefix_len-le-length}
use Rattle.model.proofs.Search.{position-or-len, counts-before}
use Rattle.loading.specs.Loading.{word_end}
use Rattle.loading.proofs.word_end.Goals as goal

pub returns : goal.returns
returns c =
    let p : ℕ → Bool = λ b. eqb b 32 || eqb b 10 in
    let xs = c.args.s.now in
    let h = position_from_yields_List p _ _ c.position.result c.position.ensures.ran (YieldsList-from_slice xs cc) (λ x b q k. search (rules, tests)) in
    let e = c.unwrap_or.ensures ∙ ap (λ o. unwrap_or o (length xs)) h ∙ position-or-len p xs in
    record {
      upper_bound = omega (arith, e, prefix_len-le-length (λ x. not (p x)) xs);
      value = e ∙ counts-before p word_end refl (λ b bs. refl) xs;
    }
