-- The lines of a text.
use Rattle.std.specs.Prelude.{◌≡◌, ℕ, ◌+◌, ◌-◌, ◌^◌, ◌<◌, ◌≤◌, cond, List, [], ◌∷◌, ◌++◌, length, drop, Option, MatchOption, ◌==◌, slice_index, ◌≢◌}
use Rattle.std.specs.List.{AllByRecursion, between}
use Rattle.reader.specs.declared.split.Line.{Line}
use Rattle.reader.specs.declared.split.Lines.{Lines}

-- some bytes and where they begin
abbrev pub Piece : Type 0
Piece = ℕ × List ℕ

-- no line feed (10) among the bytes
abbrev pub NoFeed : List ℕ → Type 0
NoFeed bs = AllByRecursion (λ b. b ≢ 10) bs

-- no carriage return (13) at their end
abbrev pub NoReturn : List ℕ → Type 0
NoReturn bs = (front : List ℕ) → bs ≢ front ++ 13 ∷ []

-- `FirstLine text line rest`: `line` stands before the first end of a line, which is a line feed, a carriage return and a line feed,
-- or the text's end, and `rest` behind it
pub data FirstLine : List ℕ → List ℕ → List ℕ → Type 0 where
  last : {line : List ℕ} → NoFeed line → FirstLine line line []
  feed : {line rest : List ℕ} → NoFeed line → NoReturn line → FirstLine (line ++ 10 ∷ rest) line rest
  return_feed : {line rest : List ℕ} → NoFeed line → FirstLine (line ++ 13 ∷ 10 ∷ rest) line rest

-- bs less a carriage return at its end
abbrev pub less_return : List ℕ → List ℕ
less_return [] = []
less_return (b ∷ []) = cond (b == 13) [] (b ∷ [])
less_return (b ∷ c ∷ bs) = b ∷ less_return (c ∷ bs)

-- what is left at the text's end: nothing where the text ends with a line feed
abbrev pub last_line : ℕ → List ℕ → List Piece
last_line start [] = []
last_line start (b ∷ bs) = (start, b ∷ bs) ∷ []

-- the lines of a text of which the line that begins at `start` has been read as far as `line`
abbrev pub lines_from : ℕ → List ℕ → List ℕ → List Piece
lines_from start line [] = last_line start line
lines_from start line (b ∷ bs) = cond (b == 10) ((start, less_return line) ∷ lines_from (start + length line + 1) [] bs) (lines_from start (line ++ b ∷ []) bs)

-- the lines of a part of a text that begins at `place`
abbrev pub lines_of : ℕ → List ℕ → List Piece
lines_of place part = lines_from place [] part

abbrev pub lines : List ℕ → List Piece
lines text = lines_of 0 text

-- the same line, in a text of which its own begins at `base`
abbrev pub shifted : ℕ → Piece → Piece
shifted base l = (base + l.0, l.1)

-- the lines from the place `pos` on
abbrev pub lines_at : ℕ → List ℕ → List Piece
lines_at pos text = lines_from pos [] (drop pos text)

-- what a reader has not read yet
abbrev pub rest_of : Lines → List ℕ
rest_of r = drop r.pos r.text.now

-- the lines that a reader has yet to give
abbrev pub lines_ahead : Lines → List Piece
lines_ahead r = lines_at r.pos r.text.now

abbrev pub line_piece : Line → Piece
line_piece l = (l.place, l.part.now)

-- what a reader gives: the next of the lines ahead, which stands in the text at its place, the reader's;
-- the reader then stands behind a line feed, or at the text's end
pub record GivesLine (r : Lines) (l : Line) (s : Lines) : Type 0 where
  pub next : lines_ahead r ≡ line_piece l ∷ lines_ahead s
  pub first : FirstLine (rest_of r) l.part.now (rest_of s)
  pub stands : l.part.now ≡ between l.place (l.place + length l.part.now) r.text.now
  pub within : l.place + length l.part.now ≤ length r.text.now
  pub fits : l.place + length l.part.now < 2 ^ 64
  pub here : l.place ≡ r.pos
  pub past : s.pos ≤ length r.text.now
  pub feed : s.pos < length r.text.now → slice_index r.text.now (s.pos - 1) ≡ 10

-- one step of a reader
abbrev pub LineStep : Lines → Option Line → Lines → Type 0
LineStep r o s = (s.text.now ≡ r.text.now) × MatchOption o ((lines_ahead r ≡ []) × (lines_ahead s ≡ [])) (λ l. GivesLine r l s)
