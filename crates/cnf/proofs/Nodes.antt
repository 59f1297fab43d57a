-- Laws of a node's three steps. Assumes nothing.
use mathlib.Core.Path.{◌≡◌, ap, ◌∙◌}
use mathlib.Core.List.{List, ◌++◌, append-nil}
use Prim.Native.Nat.{ℕ, ◌+◌}
use native.Mathlib.Numerals.{add-one}
use lib.ListN.{length, length-append}
use Rattle.model.specs.declared.Literal.TheVariants.{Pos, Neg}
use Rattle.model.specs.declared.Term.{Term}
use Rattle.model.specs.declared.Printed.{Printed}
use Rattle.model.specs.declared.Node.{Node}
use Rattle.model.specs.Totalizer.{keep, up, down, formed, node_terms, put_in, dropped}
use Rattle.model.specs.Text.{clause_text}
use Rattle.model.proofs.Lists.{each-each}
use Rattle.text.specs.Put.{kept_text}
use Rattle.cnf.specs.Parts.{pair_text}

-- ---- formed: the code's index p + 1

abbrev down_by_one : ℕ → ℕ → Printed
down_by_one p q = record { c = Pos (p + 1); d = Pos (q + 1); n = Neg (p + q + 1) }

pub formed_by_one : (p q : ℕ) → record { up = up p q; down = down_by_one p q } ≡ formed p q
unfolding formed down
formed_by_one p q = rw (add-one p, add-one q, add-one (p + q))

-- ---- put in: an output by its index

-- ---- dropped: the texts of a clause and of both

pub clause-text : (t : Node) {f g : Printed} {x : List Term} → f ≡ g → x ≡ node_terms t f → kept_text x ≡ kept_text (node_terms t g)
clause-text t e h = ap kept_text (h ∙ ap (node_terms t) e)

module _ (t : Node) (p q : ℕ) where
  pub pair-text : pair_text t p q ≡ kept_text (node_terms t (formed p q).up) ++ kept_text (node_terms t (formed p q).down)
  unfolding pair_text dropped put_in kept_text
  pair-text =
      each-each clause_text keep (put_in t p q)
      ∙ ap (λ (l : List ℕ). kept_text (node_terms t (formed p q).up) ++ l) (append-nil (kept_text (node_terms t (formed p q).down)))

  pub pair-length : length (pair_text t p q) ≡ length (kept_text (node_terms t (formed p q).up)) + length (kept_text (node_terms t (formed p q).down))
  pair-length = ap length pair-text ∙ length-append (kept_text (node_terms t (formed p q).up)) (kept_text (node_terms t (formed p q).down))
