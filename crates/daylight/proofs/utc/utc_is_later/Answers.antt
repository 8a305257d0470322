use Rattle.daylight.proofs.Later.{utc_is_later as TheLaw}
use Rattle.daylight.proofs.utc.utc_is_later.Goals as goal

pub returns : goal.returns
returns c = TheLaw
