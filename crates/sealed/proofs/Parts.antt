-- Writing a whole part after part.
use Rattle.std.proofs.Common.{◌≡◌, ℕ, ◌+◌, ◌≤◌, List, [], ◌∷◌, ◌++◌, length, codes, sym, refl, ap, ◌∙◌, append_assoc, subst, arith, length-append}
use Rattle.std.proofs.lemmas.List.{append-nil}
use Rattle.shape.specs.Decimal.{figures}
use Rattle.sealed.specs.declared.writing.Writer.{Writer}
use Rattle.sealed.specs.Hex.{hex_of}
use Rattle.sealed.specs.Line.{Parts, header_of, rest_of, sealed_line}
use Rattle.sealed.specs.Output.{Puts}
use Rattle.sealed.proofs.Overs.{over_none, length_over, put_more}

abbrev pub joined : List (List ℕ) → List ℕ
joined [] = []
joined (v ∷ parts) = v ++ joined parts

-- the whole is written from `before` on, as far as `now`, but for the parts that are left; there is room for it
pub record Left (before now : Writer) (whole : List ℕ) (parts : List (List ℕ)) : Type 0 where
  pub done : List ℕ
  pub cut : done ++ joined parts ≡ whole
  pub puts : Puts before now done
  pub fits : before.at + length whole ≤ length before.out.now

start : (before : Writer) (whole : List ℕ) (parts : List (List ℕ)) → joined parts ≡ whole → before.at + length whole ≤ length before.out.now → Left before before whole parts
start before whole parts cut fits = record { done = []; cut = cut; puts = record { at = omega arith; out = over_none before.out.now before.at; same = refl }; fits = fits }

module _ {before now : Writer} {whole v : List ℕ} {parts : List (List ℕ)} (l : Left before now whole (v ∷ parts)) where
  long : length l.done + (length v + length (joined parts)) ≡ length whole
  long = omega (arith, length-append l.done (v ++ joined parts), length-append v (joined parts), ap length l.cut)

  pub room : now.at + length v ≤ length now.out.now
  room = omega (arith, l.puts.at, l.fits, long, ap length l.puts.out, length_over before.out.now before.at l.done (omega (arith, long, l.fits)))

  pub step : {after : Writer} → Puts now after v → Left before after whole parts
  step {after} p =
      record {
        done = l.done ++ v;
        cut = append_assoc l.done v (joined parts) ∙ l.cut;
        puts = record {
          at = omega (arith, p.at, l.puts.at, length-append l.done v);
          out = put_more before.out.now now.out.now after.out.now before.at l.done v now.at l.puts.at (omega (arith, long, l.fits, l.puts.at)) l.puts.out p.out;
          same = p.same ∙ l.puts.same;
        };
        fits = l.fits;
      }

pub finish : {before now : Writer} {whole : List ℕ} → Left before now whole [] → Puts before now whole
finish {before} {now} l = subst (Puts before now) (sym (append-nil l.done) ∙ l.cut) l.puts

-- the header, what follows it, and the line
pub header_left : (o : Writer) (a b c : ℕ) → o.at + length (header_of a b c) ≤ length o.out.now →
    Left o o (header_of a b c) (codes "(sealed (slot " ∷ figures a ∷ codes ") (kind " ∷ figures b ∷ codes ") (serial " ∷ figures c ∷ codes ") " ∷ [])
unfolding header_of
header_left o a b c fits = start o (header_of a b c) _ refl fits

pub rest_left : (o : Writer) (siv text : List ℕ) → o.at + length (rest_of siv text) ≤ length o.out.now →
    Left o o (rest_of siv text) (codes "(siv " ∷ hex_of siv ∷ codes ") (text " ∷ hex_of text ∷ codes "))\n" ∷ [])
unfolding rest_of
rest_left o siv text fits = start o (rest_of siv text) _ refl fits

pub line_left : (o : Writer) (p : Parts) → o.at + length (sealed_line p) ≤ length o.out.now → Left o o (sealed_line p) (header_of p.slot p.kind p.serial ∷ rest_of p.siv p.text ∷ [])
unfolding sealed_line
line_left o p fits = start o (sealed_line p) _ (ap (λ z. header_of p.slot p.kind p.serial ++ z) (append-nil (rest_of p.siv p.text))) fits
