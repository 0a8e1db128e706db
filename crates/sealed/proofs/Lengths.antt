-- How long headers and lines are.
use Rattle.std.proofs.Common.{◌≡◌, ℕ, ◌+◌, ◌*◌, ◌≤◌, true, List, length, replicate, refl, ap, arith, length-append}
use Rattle.std.proofs.lemmas.List.{length-replicate}
use Rattle.std.proofs.lemmas.Bool.Decides.{nat_tests}
use Rattle.shape.specs.Decimal.{figures}
use Rattle.shape.proofs.Figures.{length_one, length_figures}
use Rattle.sealed.specs.Frame.{Most}
use Rattle.sealed.specs.Limits.{siv_length, text_length, longest_siv, longest_text, last_serial}
use Rattle.sealed.specs.Line.{Parts, Lawful, SealedLine, Longest, LongestHeader, header_of, rest_of, sealed_line}
use Rattle.sealed.proofs.Hexes.{length_hex}
use Rattle.sealed.proofs.Pieces.{zero_bytes}

pub length_header : (a b c : ℕ) → length (header_of a b c) ≡ 34 + length (figures a) + length (figures b) + length (figures c)
unfolding header_of
length_header a b c = simp length-append (omega arith)

pub length_line : (p : Parts) → length (sealed_line p) ≡ length (header_of p.slot p.kind p.serial) + 16 + 2 * length p.siv + 2 * length p.text
unfolding sealed_line rest_of
length_line p = simp (length-append, length-append) (omega (arith, length_hex p.siv, length_hex p.text))

pub few_figures : (n : ℕ) → n ≤ last_serial → length (figures n) ≤ 10
few_figures n h = length_figures 10 n (omega arith) (omega arith) (omega arith)

-- the longest SIV and the longest text
siv_within : (n : ℕ) → siv_length n ≡ true → n ≤ longest_siv
siv_within n h = grind (arith, nat_tests)

text_within : (n : ℕ) → text_length n ≡ true → n ≤ longest_text
text_within n h = grind (arith, nat_tests)

pub siv_most : Most siv_length longest_siv
siv_most = (refl, siv_within)

pub text_most : Most text_length longest_text
text_most = (refl, text_within)

pub longest_header_is : LongestHeader
longest_header_is a b c h =
    omega (arith, length_header a b c, length_one a (omega (arith, h.slot_last)), length_one b (omega (arith, h.kind_last)), few_figures c h.serial_last)

fits : (l : List ℕ) → SealedLine l → length l ≤ 32894
fits l x =
    let p = x.0 in
    let a = x.1 in
    omega (arith, ap length x.2, length_line p, longest_header_is p.slot p.kind p.serial a.head, siv_most.1 (length p.siv) a.siv_long, text_most.1 (length p.text) a.text_long)

abbrev long : Parts
long = record { slot = 7; kind = 9; serial = last_serial; siv = replicate longest_siv 0; text = replicate longest_text 0 }

digits : length (figures last_serial) ≡ 10
unfolding figures
digits = refl

pub longest_is : Longest
longest_is = (fits, (sealed_line long, (long, lawful, refl), long_is))
  where
    lawful : Lawful long
    lawful =
        record {
          head = record { slot_last = omega arith; kind_first = omega arith; kind_last = omega arith; serial_first = omega arith; serial_last = omega arith };
          siv_long = ap siv_length (length-replicate {A = ℕ} longest_siv 0);
          siv_bytes = zero_bytes longest_siv;
          text_long = ap text_length (length-replicate {A = ℕ} longest_text 0);
          text_bytes = zero_bytes longest_text;
        }

    long_is : length (sealed_line long) ≡ 32894
    long_is = omega (arith, length_line long, length_header 7 9 last_serial, length_one 7 (omega arith), length_one 9 (omega arith), digits, length-replicate {A = ℕ} longest_siv 0, length-replicate {A = ℕ} longest_text 0)
