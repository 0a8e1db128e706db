-- The book: what a list of calls, newest first, has left behind. It speaks of
-- no box; it knows the calls by their arguments alone.
use Rattle.std.specs.Prelude.{◌≡◌, ℕ, ◌+◌, ◌<◌, ◌≤◌, Bool, true, false, cond, ◌&&◌, ◌⊎◌, List, [], ◌∷◌, length, is_some, Some, None, Option, ◌==◌, nat_lt}
use Rattle.std.specs.List.{flat_map, AllByRecursion}

-- The limits: slots of a box, bytes of a key, items and bytes of a sheet. The
-- serials of sheets are those above 0 and below serial_end.
abbrev pub slot_count : ℕ
slot_count = 8

abbrev pub longest_key : ℕ
longest_key = 32

abbrev pub most_items : ℕ
most_items = 1024

abbrev pub most_bytes : ℕ
most_bytes = 16384

abbrev pub serial_end : ℕ
serial_end = 4294967296

-- A kind as the book knows it: its number, and which lines its lawful items have.
pub record KindOf : Type 0 where
  pub number : ℕ
  pub has : List ℕ → Bool

-- The kind of that number whose lines are those that can be read.
abbrev pub kind_of : {X : Type 0} → ℕ → (List ℕ → Option X) → KindOf
kind_of number reading = record { number = number; has = λ l. is_some (reading l) }

-- lines joined to a text
abbrev pub text_of : List (List ℕ) → List ℕ
text_of lines = flat_map (λ l. l) lines

-- A call as it was made, whatever the box answered.
pub data Call : Type 0 where
  setting : (slot : ℕ) (key : List ℕ) → Call
  clearing : (slot : ℕ) → Call
  asking : (slot : ℕ) → Call
  opening : (line : List ℕ) → (kind : KindOf) → (work tray : ℕ) → Call

-- A way of sealing: the line that a text seals to, for a slot, a kind's number,
-- a serial and a key.
abbrev pub Sealing : Type 0
Sealing = (slot kind serial : ℕ) (key text : List ℕ) → List ℕ

-- whether t is one of the slots, and s is it
abbrev pub hits : ℕ → ℕ → Bool
hits t s = nat_lt t slot_count && s == t

-- whether a key may be set
abbrev pub good_key : List ℕ → Bool
good_key k = nat_lt 0 (length k) && nat_lt (length k) (longest_key + 1)

-- The key that the book has for the slot s: a setting that passes its checks
-- writes it, a clearing strikes it out.
abbrev pub key_in : List Call → ℕ → Option (List ℕ)
key_in [] s = None
key_in (setting t k ∷ h) s = cond (good_key k && hits t s) (Some k) (key_in h s)
key_in (clearing t ∷ h) s = cond (hits t s) None (key_in h s)
key_in (asking t ∷ h) s = key_in h s
key_in (opening l q w n ∷ h) s = key_in h s

-- a serial above 0 and above each of those opened
abbrev pub Above : (ℕ → Type 0) → ℕ → Type 0
Above opened m = (0 < m) × ((j : ℕ) → opened j → j < m)

module _ (seal : Sealing) where
  -- These lines, each of an item of the kind, make a sheet within the limits,
  -- and l is what it seals to.
  pub record SealedLines (q : KindOf) (slot serial : ℕ) (key l : List ℕ) (lines : List (List ℕ)) : Type 0 where
    pub lawful : AllByRecursion (λ l. q.has l ≡ true) lines
    pub few : length lines ≤ most_items
    pub short : length (text_of lines) ≤ most_bytes
    pub serial_first : 0 < serial
    pub serial_last : serial < serial_end
    pub line_is : l ≡ seal slot q.number serial key (text_of lines)

  -- An opening is granted in the slot s, of which the book has the key k and the
  -- opened serials, and the serial is m.
  pub record Granted (k : Option (List ℕ)) (opened : ℕ → Type 0) (l : List ℕ) (q : KindOf) (work tray s m : ℕ) : Type 0 where
    pub key : List ℕ
    pub lines : List (List ℕ)
    pub key_is : k ≡ Some key
    pub sealed : SealedLines q s m key l lines
    pub fresh : Above opened m
    pub space : length (text_of lines) ≤ work
    pub room : length lines ≤ tray

  -- The serials opened from the slot s since its key was last set or cleared.
  abbrev pub Opened : List Call → (s m : ℕ) → Type 0
  Opened [] s m = ⊥
  Opened (setting t k ∷ h) s m = ((good_key k && hits t s) ≡ false) × Opened h s m
  Opened (clearing t ∷ h) s m = (hits t s ≡ false) × Opened h s m
  Opened (asking t ∷ h) s m = Opened h s m
  Opened (opening l q w n ∷ h) s m = Opened h s m ⊎ Granted (key_in h s) (Opened h s) l q w n s m

  -- The serials that the slot s may still open.
  abbrev pub Fresh : List Call → (s m : ℕ) → Type 0
  Fresh h s m = Above (Opened h s) m
