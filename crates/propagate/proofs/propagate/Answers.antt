-- `propagate` judges the range, makes the passes and tests the table at the end. Assumes nothing.
use mathlib.Core.Path.{refl}
use native.Mathlib.Omega.{arith}
use lib.ListN.{length-take}
use Rattle.model.specs.Model.{constraint_sized}
use Rattle.model.proofs.Lists.{every_take}
use Rattle.propagate.proofs.Passes.{s-few, n-few, c-few, constraints-stand, range-false, range-true, fuel-fits, refused_20}
use Rattle.propagate.proofs.Demand.{out_of_range, in_demand}
use Rattle.propagate.proofs.Settling.{first-same, as_it_was, first-other, no_fuel, not-tenable, is-settled}
use Rattle.propagate.proofs.propagate.Goals as goal

-- the clauses by their names
named : {A B C : Type 0} → A × (B × C) → record { value : A; passes_bound : B; settling : C }
named p = record { value = p.0; passes_bound = p.1.0; settling = p.1.1 }

pub returns-then-not-in_range : goal.returns-then-not-in_range
returns-then-not-in_range c = named (out_of_range c.args.m _ c.refused.ensures (refused_20 c.args.m (range-false c.args.m _ c.in_range.ensures c.if-not-in_range.true) _ c.refused.ensures))

pub returns-then-not-first : goal.returns-then-not-first
returns-then-not-first c =
    let m = c.args.m in
    let t = range-true m _ c.in_range.ensures c.if-not-in_range.false in
    let p = c.passed-first.ensures in
    named (in_demand m t p.sized _ (not-tenable m t m.groups p.before refl _ _ (first-same m t m.groups _ p.before p.pass _ p.same-is c.if-first.true) _ p.ok-is c.if-not-first.true _ c.refused-then-not-first.ensures))

pub returns-then-first : goal.returns-then-first
returns-then-first c =
    let m = c.args.m in
    let t = range-true m _ c.in_range.ensures c.if-not-in_range.false in
    let p = c.passed-first.ensures in
    named (in_demand m t p.sized _ (is-settled m t m.groups p.before refl _ _ (first-same m t m.groups _ p.before p.pass _ p.same-is c.if-first.true) _ p.ok-is c.if-not-first.false _ (as_it_was m t m.groups _ p.before p.pass _ p.same-is c.if-first.true refl _ refl)))

pub overflow_mul-fuel-2 : goal.overflow_mul-fuel-2
overflow_mul-fuel-2 c =
    let m = c.args.m in
    let t = range-true m _ c.in_range.ensures c.if-not-in_range.false in
    omega (arith, fuel-fits m t)

pub overflow_add-fuel : goal.overflow_add-fuel
overflow_add-fuel c =
    let m = c.args.m in
    let t = range-true m _ c.in_range.ensures c.if-not-in_range.false in
    omega (arith, fuel-fits m t)

pub run_marked-requires : goal.run_marked-requires
run_marked-requires c =
    let m = c.args.m in
    let t = range-true m _ c.in_range.ensures c.if-not-in_range.false in
    (omega arith, (s-few m t, (omega (arith, length-take m.c m.constraints, c-few m t), (constraints-stand m t, (every_take constraint_sized m.c m.constraints c.passed-first.ensures.sized, n-few m t)))))

pub returns-in_default : goal.returns-in_default
returns-in_default c =
    let m = c.args.m in
    let t = range-true m _ c.in_range.ensures c.if-not-in_range.false in
    let p = c.passed-first.ensures in
    named (in_demand m t p.sized _ (no_fuel m t m.groups p.before refl (first-other m t m.groups _ p.before p.pass _ p.same-is c.if-first.false _ c.in_default.ensures) _ c.refused-in_default.ensures))

pub returns-then-not-is_tenable : goal.returns-then-not-is_tenable
returns-then-not-is_tenable c =
    let m = c.args.m in
    let t = range-true m _ c.in_range.ensures c.if-not-in_range.false in
    let p = c.passed-first.ensures in
    named (in_demand m t p.sized _ (not-tenable m t m.groups p.before refl _ _ (first-other m t m.groups _ p.before p.pass _ p.same-is c.if-first.false _ c.in-Some.ensures) _ c.is_tenable.ensures c.if-not-is_tenable.true _ c.refused-then-not-is_tenable.ensures))

pub returns : goal.returns
returns c =
    let m = c.args.m in
    let t = range-true m _ c.in_range.ensures c.if-not-in_range.false in
    let p = c.passed-first.ensures in
    named (in_demand m t p.sized _ (is-settled m t m.groups p.before refl _ _ (first-other m t m.groups _ p.before p.pass _ p.same-is c.if-first.false _ c.in-Some.ensures) _ c.is_tenable.ensures c.if-not-is_tenable.false _ c.done.ensures))
