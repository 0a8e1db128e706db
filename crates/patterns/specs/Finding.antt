-- Which item has a line: the one that its word and numbers name, if it is lawful and has that line.
use Rattle.std.specs.Prelude.{ℕ, zero, suc, Bool, cond, ◌&&◌, List, [], ◌∷◌, ◌++◌, drop, ℤ, pos, negsuc, Some, None, Option, ◌==◌, nat_le}
use Rattle.std.specs.Str.Parse.{digits_value}
use Rattle.std.specs.Str.{bytes_eq}
use Rattle.patterns.specs.Pattern.{figure}

-- the small letters at the front
abbrev pub letters : List ℕ → List ℕ
letters [] = []
letters (b ∷ l) = cond (nat_le 97 b && nat_le b 122) (b ∷ letters l) []

-- the word of the outer form
abbrev pub word : List ℕ → List ℕ
word l = letters (drop 1 l)

abbrev pub minus : ℕ → ℤ
minus zero = pos zero
minus (suc n) = negsuc n

-- the value of digits, after a "-" (45) or not
abbrev pub signed : List ℕ → ℤ
signed [] = pos 0
signed (b ∷ t) = cond (b == 45) (minus (digits_value 10 t)) (pos (digits_value 10 (b ∷ t)))

-- one number more, if there are digits
abbrev pub add_number : List ℕ → List ℤ → List ℤ
add_number [] vs = vs
add_number (b ∷ t) vs = signed (b ∷ t) ∷ vs

-- The numbers in a text from left to right, after a run of digits that has just been passed.
abbrev pub numbers_from : List ℕ → List ℕ → List ℤ
numbers_from run [] = add_number run []
numbers_from run (b ∷ l) = cond (figure b) (numbers_from (run ++ b ∷ []) l) (add_number run (numbers_from [] l))

unfoldable pub numbers : List ℕ → List ℤ
numbers l = numbers_from [] l

-- the item, if it is lawful and has this line
abbrev pub having : {X : Type 0} → (X → Bool) → (X → List ℕ) → List ℕ → Option X → Option X
having lawful line l None = None
having lawful line l (Some x) = cond (lawful x && bytes_eq (line x) l) (Some x) None
