-- A sheet taken apart for opening.
use Rattle.std.specs.Prelude.{◌≡◌, ℕ, ◌-◌, ◌<◌, ◌≤◌, Bool, List, ◌++◌, length, replicate, Ok, Err, Decides, Result}
use Rattle.refusal.specs.declared.Refusal.{Refusal}
use Rattle.refusal.specs.declared.Refusal.TheVariants.{ShortWork}
use Rattle.sealed.specs.declared.unchecked.Unchecked.{Unchecked}
use Rattle.sealed.specs.declared.unchecked.Ciphertext.{Ciphertext}
use Rattle.sealed.specs.declared.unchecked.SealedParts.{SealedParts}
use Rattle.sealed.specs.declared.unchecked.Siv.{Siv}
use Rattle.sealed.specs.Hex.{bytes_of}
use Rattle.sealed.specs.Limits.{longest_siv}
use Rattle.sealed.specs.Line.{header_of}
use Rattle.sealed.specs.Sheet.{parts_of}

-- the bytes of a masked text
abbrev pub cipher_of : Ciphertext → List ℕ
cipher_of t = bytes_of t.digits.now

-- a SIV in its array, with zeros after it
abbrev pub HoldsSiv : List ℕ → Siv → Type 0
HoldsSiv siv s = (s.len ≡ length siv) × (s.bytes ≡ siv ++ replicate (longest_siv - length siv) 0)

-- r is what opening needs of the sheet u
pub record ApartFrom (u : Unchecked) (r : SealedParts) : Type 0 where
  pub head : r.header.now ≡ header_of u.label.slot u.label.kind u.label.serial
  pub siv : HoldsSiv (parts_of u).siv r.siv
  pub text : cipher_of r.text ≡ (parts_of u).text

-- Whether a masked text is these bytes; refused exactly if the work buffer is too short for it.
abbrev pub Compares : (text bytes : List ℕ) (room : ℕ) → Result Bool Refusal → Type 0
Compares text bytes room (Ok t) = (length text ≤ room) × Decides t (text ≡ bytes)
Compares text bytes room (Err e) = (room < length text) × (e ≡ ShortWork)
