-- What the items of a line are, as relations: they do not say how the items are found.
use Rattle.std.specs.Prelude.{◌≡◌, ℕ, ◌+◌, ◌<◌, Bool, true, false, List, [], ◌∷◌, ◌++◌, length, MatchOption}
use Rattle.items.specs.declared.mark.Run.{Run}
use Rattle.items.specs.declared.mark.Run.TheVariants.{Blanks, Loose, Stretch, Word}
use Rattle.items.specs.Items.{body_items, message_items}
use Rattle.items.specs.Marks.{after, marks, passes}
use Rattle.reader.specs.Lines.{Piece}
use Rattle.items.specs.Words.{first_word, split_item}
use Rattle.std.specs.List.{suffix_len, prefix_len, AllByRecursion}

-- whether a comment is open behind the bytes, if one is (`inside`) before them
abbrev pub leaves : Bool → List ℕ → Bool
leaves inside [] = inside
leaves inside (b ∷ bs) = leaves (after inside b) bs

-- all the bytes read as the run wants
abbrev pub Reads : Run → Bool → List ℕ → Type 0
Reads run inside bs = AllByRecursion (λ m. passes run m ≡ true) (marks inside bs)

-- the item is what stands at its place in the bytes from p on, with nothing but the run before it and behind it, and none of it at its ends
pub record Trimmed (run : Run) (p : ℕ) (bs : List ℕ) (item : Piece) : Type 0 where
  pub front : List ℕ
  pub back : List ℕ
  pub whole : bs ≡ front ++ (item.1 ++ back)
  pub place : item.0 ≡ p + length front
  pub before : Reads run false front
  pub behind : Reads run (leaves false (front ++ item.1)) back
  pub first : prefix_len (passes run) (marks (leaves false front) item.1) ≡ 0
  pub last : suffix_len (passes run) (marks (leaves false front) item.1) ≡ 0

-- the bytes from p on are pieces joined by slashes outside comments, and each item is its piece less the blanks around it
pub data Parted : ℕ → List ℕ → List Piece → Type 0 where
  only : {p : ℕ} {piece : List ℕ} {item : Piece} → Reads Stretch false piece → Trimmed Blanks p piece item → Parted p piece (item ∷ [])
  slash : {p : ℕ} (piece : List ℕ) {rest : List ℕ} {item : Piece} {items : List Piece} → Reads Stretch false piece → leaves false piece ≡ false → Trimmed Blanks p piece item → Parted (p + length piece + 1) rest items → Parted p (piece ++ 47 ∷ rest) (item ∷ items)

-- a message line's stretch, less the blanks and slashes at its ends, is parted into its items
abbrev pub MessageParted : Type 0
MessageParted = (p : ℕ) (bs : List ℕ) → (core : Piece) × (Trimmed Loose p bs core × Parted core.0 core.1 (message_items p bs))

-- what ends a body line behind `mid`: blanks, where no slash stands before them, or one slash and then blanks
pub data BodyEnd (mid : List ℕ) : List ℕ → Type 0 where
  plain : {back : List ℕ} → suffix_len (passes Loose) (marks false mid) ≡ 0 → Reads Blanks (leaves false mid) back → BodyEnd mid back
  slashed : {back : List ℕ} → leaves false mid ≡ false → Reads Blanks false back → BodyEnd mid (47 ∷ back)

-- what is blank holds no item, and all else is parted
pub data Held (p : ℕ) (mid : List ℕ) : List Piece → Type 0 where
  none : Reads Blanks false mid → Held p mid []
  some : {items : List Piece} → (Reads Blanks false mid → ⊥) → Parted p mid items → Held p mid items

-- a body line's stretch, less its end, is blank or parted into its items
abbrev pub BodyParted : Type 0
BodyParted = (p : ℕ) (bs : List ℕ) → (mid : List ℕ) × ((back : List ℕ) × ((bs ≡ mid ++ back) × (BodyEnd mid back × Held p mid (body_items p bs))))

-- the first word of the bytes: blanks before it, no blank in it, and a blank or the end behind it
pub record WordFound (bs : List ℕ) (w : ℕ × (List ℕ × List ℕ)) : Type 0 where
  pub front : List ℕ
  pub whole : bs ≡ front ++ (w.1.0 ++ w.1.1)
  pub lead : w.0 ≡ length front
  pub before : Reads Blanks false front
  pub outside : leaves false front ≡ false
  pub word : Reads Word false w.1.0
  pub some : 0 < length w.1.0
  pub behind : prefix_len (passes Word) (marks false w.1.1) ≡ 0

-- only what is blank has no word
abbrev pub WordsFound : Type 0
WordsFound = (bs : List ℕ) → MatchOption (first_word bs) (Reads Blanks false bs) (λ w. WordFound bs w)

-- the item is blanks, its code, blanks, its value, and blanks; no blank stands in the code nor at the value's ends, and one at least between the two
pub record Halves (bs code value : List ℕ) : Type 0 where
  pub front : List ℕ
  pub gap : List ℕ
  pub back : List ℕ
  pub whole : bs ≡ front ++ (code ++ (gap ++ (value ++ back)))
  pub before : Reads Blanks false front
  pub outside : leaves false front ≡ false
  pub unbroken : Reads Word false code
  pub some : 0 < length code
  pub amid : Reads Blanks false gap
  pub behind : Reads Blanks (leaves false (gap ++ value)) back
  pub first : prefix_len (passes Blanks) (marks (leaves false gap) value) ≡ 0
  pub last : suffix_len (passes Blanks) (marks (leaves false gap) value) ≡ 0
  pub apart : 0 < length value → 0 < length gap

-- what reads as blank has neither code nor value
pub data Split (bs : List ℕ) : List ℕ × List ℕ → Type 0 where
  blank : Reads Blanks false bs → Split bs ([], [])
  halves : {code value : List ℕ} → Halves bs code value → Split bs (code, value)

abbrev pub ItemsSplit : Type 0
ItemsSplit = (bs : List ℕ) → Split bs (split_item bs)
