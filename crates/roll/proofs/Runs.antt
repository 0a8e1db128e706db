-- A run of draws gives serials that rise by one.
use Rattle.std.proofs.Common.{◌≡◌, ℕ, zero, suc, ◌+◌, List, [], ◌∷◌, length, arith}
use Rattle.roll.specs.Draws.{Run, Rising, NeverRepeats}

rises : (was is : ℕ) (serials : List ℕ) → Run was serials is → Rising was serials
rises was is [] r k l = absurd (omega arith)
rises was is (s ∷ ss) r zero l = omega (arith, r.1.1)
rises was is (s ∷ ss) r (suc k) l = omega (arith, r.1, rises r.0 is ss r.2 k (omega arith))

counts : (was is : ℕ) (serials : List ℕ) → Run was serials is → is ≡ was + length serials
counts was is [] r = omega (arith, r)
counts was is (s ∷ ss) r = omega (arith, r.1, counts r.0 is ss r.2)

pub never_repeats : NeverRepeats
never_repeats was is serials r =
    let up = rises was is serials r in
    (up, (λ j k lj lk e. omega (arith, up j lj, up k lk)), counts was is serials r)
