-- `feed` keeps what stands. Assumes nothing.
use mathlib.Core.Path.{refl}
use Rattle.certificate.proofs.Answer.{unrefuted-keeps}
use Rattle.certificate.proofs.feed.Goals as goal

pub returns-in_default : goal.returns-in_default
returns-in_default c = record { opening_value = refl; by_index = λ b h. h; store_unchanged = λ n. (refl, refl, refl) }

pub returns : goal.returns
returns c = record { opening_value = refl; by_index = λ b h. record { out = h.out; unrefuted = λ e. unrefuted-keeps c.feed-reader.ensures (h.unrefuted e) }; store_unchanged = λ n. absurd (n c.in-Open.is) }
