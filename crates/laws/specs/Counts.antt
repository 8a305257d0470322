-- How many faults a text can have.
use Rattle.std.specs.Prelude.{◌≡◌, ℕ, ◌^◌, ◌<◌, ◌≤◌, List, length}
use Rattle.reader.specs.Lines.{lines}
use Rattle.events.specs.Events.{met}
use Rattle.daylight.specs.Settings.{Setting}
use Rattle.shef.specs.Texts.{events}
use Rattle.shef.specs.Decodes.{counted, decoded}

pub record FaultsCounted : Type 0 where
  -- a text has no more lines than bytes
  pub lines_few : (text : List ℕ) → length (lines text) ≤ length text
  -- and no more faults than lines, the want of room among them
  pub faults_few : (S : Setting) (room : ℕ) (text : List ℕ) → length (met room (events S text)) ≤ length (lines text)
  -- so the count of a text that memory can hold never stops short
  pub exact : (S : Setting) (room : ℕ) (text : List ℕ) → length text < 2 ^ 64 → counted (length (met room (decoded S text))) ≡ length (met room (decoded S text))
