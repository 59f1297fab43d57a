-- `admit` stores a clause as `commit` does an implied one. Assumes nothing.
use Rattle.refutation.specs.Steps.{given}
use Rattle.refutation.proofs.admit.Goals as goal

pub returns : goal.returns
unfolding given
returns c =
    let e = c.commit.ensures in record {
      holds = λ a h t. e.keeps.keeps a
          (record { stored = h.stored; last = h.last; place = h.place; fresh = h.fresh; marked = h.marked; implied = λ e. t; unrefuted = h.unrefuted });
      begun = λ z. let b = e.begun z in record { taken = b.taken; none = b.none };
      value = e.value;
    }
