-- `sets_hold` judges a constraint by its code, on the sets of its first members. Assumes nothing.
use Rattle.constraint_clauses.proofs.Meanings.{says-1, says-2, says-3, says-4, says-5, says-6, says-7}
use Rattle.constraint_clauses.proofs.sets_hold.Goals as goal

pub returns-in-1 : goal.returns-in-1
returns-in-1 c = says-1 _ _ _ _ c.told-ids _ c.set_of-a.ensures _ c.set_of-b.ensures c.in-1.is

pub returns-in-2 : goal.returns-in-2
returns-in-2 c = says-2 _ _ _ _ c.told-ids _ c.set_of-a.ensures _ c.set_of-b.ensures c.in-2.is

pub returns-in-3 : goal.returns-in-3
returns-in-3 c = says-3 _ _ _ _ c.told-ids _ c.set_of-a.ensures _ c.set_of-b.ensures _ c.set_of-c.ensures c.in-3.is

pub returns-in-4 : goal.returns-in-4
returns-in-4 c = says-4 _ _ _ _ c.told-ids _ c.set_of-a.ensures _ c.set_of-b.ensures _ c.set_of-c.ensures c.in-4.is

pub returns-in-5 : goal.returns-in-5
returns-in-5 c = says-5 _ _ _ _ c.told-ids _ c.set_of-a.ensures _ c.set_of-b.ensures _ c.set_of-c.ensures c.in-5.is _ c.without.ensures

pub returns-in-6 : goal.returns-in-6
returns-in-6 c = says-6 _ _ _ _ c.told-ids _ c.set_of-a.ensures c.in-6.is _ c.union_of.ensures

pub returns-in-7 : goal.returns-in-7
returns-in-7 c = says-7 _ _ _ _ c.told-ids _ c.set_of-a.ensures _ c.set_of-b.ensures c.in-7.is
