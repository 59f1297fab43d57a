-- Settling's part of demand 3, of any model in range. Assumes nothing.
use Prim.Native.Nat.{◌+◌, ◌*◌, ◌≤◌}
use mathlib.Core.Path.{◌≡◌, sym, ap, subst}
use lib.Dec.{T}
use Rattle.model.specs.declared.Model.{Model}
use Rattle.model.specs.declared.Propagated.{Propagated}
use Rattle.std.specs.List.{list_all}
use Rattle.model.specs.Model.{constraints_of, constraint_sized, members_sized, in_range}
use Rattle.model.specs.Propagate.{refused_propagation, propagated}
use Rattle.model.proofs.Lists.{every_take}
use Rattle.propagation_laws.proofs.Propagation.{propagation}
use Rattle.correctness.specs.Demand3.{Settling}

members : (m : Model) → T (list_all constraint_sized m.constraints) → T (members_sized m)
unfolding constraints_of
members m w = every_take constraint_sized m.c m.constraints w

-- what is promised of an answer: the definition's, its passes, and demand 3 of it
abbrev Promise : Model → Propagated → Type 0
Promise m r = (r ≡ propagated m) × ((r.passes ≤ 2 * m.s * m.n + 1) × ((r.refusal ≡ 20 → ⊥) → Settling m r))

pub out_of_range : (m : Model) (r : Propagated) → r ≡ refused_propagation 20 m → (r ≡ propagated m) × (r.passes ≤ 2 * m.s * m.n + 1) → Promise m r
unfolding refused_propagation
out_of_range m r e p = (p.0, (p.1, λ n. absurd (n (ap (λ (x : Propagated). x.refusal) e))))

pub in_demand : (m : Model) → T (in_range m) → T (list_all constraint_sized m.constraints) → (r : Propagated)
    → (r ≡ propagated m) × (r.passes ≤ 2 * m.s * m.n + 1) → Promise m r
in_demand m t w r e =
    let p = propagation m t (members m w) in (
      e.0,
      (
        e.1,
        λ n. subst (Settling m) (sym e.0)
            (record {
              answered = p.refusals;
              refused-only = p.refused-only;
              refused-when = p.refused-when;
              no-solution = p.no-solution;
              candidate = p.is-candidate;
              widest = p.widest;
              passes = p.passes;
            }),
      ),
    )
