-- Bytes at the front that pass a test: what a reader that counts them answers.
use Rattle.std.proofs.Common.{◌≡◌, ℕ, zero, suc, ◌+◌, ◌≤◌, List, [], ◌∷◌, length, take, Bool, true, false, cond, nat_le, ◌&&◌, ◌==◌, sym, refl, ap, ◌∙◌, subst, inl, inr, one-add, arith}
use Rattle.std.specs.List.{prefix_len, zip}
use Rattle.std.proofs.lemmas.Bool.{cases_Bool}
use Rattle.std.proofs.lemmas.Bool.Decides.{nat_tests}
use Rattle.std.proofs.lemmas.List.Folds.{length-prefix_len}
use Rattle.shape.specs.Token.{Runs, Shares}

-- between two bytes
abbrev within : ℕ → ℕ → ℕ → Bool
within low high b = nat_le low b && nat_le b high

between : (low high b : ℕ) → within low high b ≡ true → (low ≤ b) × (b ≤ high)
between low high b e = (grind (arith, nat_tests), grind (arith, nat_tests))

outside : (low high b : ℕ) → within low high b ≡ false → (low ≤ b) × (b ≤ high) → ⊥
outside low high b e h = grind (arith, nat_tests)

module _ (low high : ℕ) where
  abbrev C : ℕ → Type 0
  C b = (low ≤ b) × (b ≤ high)

  counted : (most : ℕ) (s : List ℕ) → Runs C most s (prefix_len (within low high) (take most s))
  counted zero s = record { fits = omega arith; few = omega arith; all = tt; stops = λ l m c. omega (arith, l) }
  counted (suc most) [] = record { fits = omega arith; few = omega arith; all = tt; stops = λ l m c. omega (arith, m) }
  counted (suc most) (x ∷ s) =
      let k = prefix_len (within low high) (take most s) in
      elim (cases_Bool (within low high x)) [
        | inl h ↦
            let r = counted most s in
            let e : cond (within low high x) (1 + k) 0 ≡ suc k = ap (λ b. cond b (1 + k) 0) h ∙ one-add k in
            subst (λ n. Runs C (suc most) (x ∷ s) n) (sym e) (record { fits = omega (arith, r.fits); few = omega (arith, r.few); all = (between low high x h, r.all); stops = λ l m c. r.stops (omega (arith, l)) (omega (arith, m)) c })
        | inr h ↦
            let e : cond (within low high x) (1 + k) 0 ≡ 0 = ap (λ b. cond b (1 + k) 0) h in
            subst (λ n. Runs C (suc most) (x ∷ s) n) (sym e) (record { fits = omega arith; few = omega arith; all = tt; stops = λ l m c. outside low high x h c })
      ]

  pub runs_to : (most : ℕ) (s : List ℕ) (n : ℕ) → n ≡ length (take (prefix_len (within low high) (take most s)) (take most s)) → Runs C most s n
  runs_to most s n e = subst (λ m. Runs C most s m) (sym (e ∙ length-prefix_len (within low high) (take most s))) (counted most s)

-- bytes at the front of two texts that are the same
abbrev same : (q : ℕ × ℕ) → Bool
same q = q.0 == q.1

in_common : (s p : List ℕ) → Shares p s (prefix_len same (zip s p))
in_common [] p = record { fits = omega arith; few = omega arith; same = refl; stops = λ l m c. omega (arith, l) }
in_common (x ∷ s) [] = record { fits = omega arith; few = omega arith; same = refl; stops = λ l m c. omega (arith, m) }
in_common (x ∷ s) (y ∷ p) =
    let k = prefix_len same (zip s p) in
    elim (cases_Bool (x == y)) [
      | inl h ↦
          let r = in_common s p in
          let e : cond (x == y) (1 + k) 0 ≡ suc k = ap (λ b. cond b (1 + k) 0) h ∙ one-add k in
          let q : x ≡ y = grind (arith, nat_tests) in
          subst (λ n. Shares (y ∷ p) (x ∷ s) n) (sym e) (record { fits = omega (arith, r.fits); few = omega (arith, r.few); same = ap (λ z. z ∷ take k s) q ∙ ap (λ z. y ∷ z) r.same; stops = λ l m c. r.stops (omega (arith, l)) (omega (arith, m)) c })
      | inr h ↦
          let e : cond (x == y) (1 + k) 0 ≡ 0 = ap (λ b. cond b (1 + k) 0) h in
          let q : x ≡ y → ⊥ = λ i. grind (arith, nat_tests) in
          subst (λ n. Shares (y ∷ p) (x ∷ s) n) (sym e) (record { fits = omega arith; few = omega arith; same = refl; stops = λ l m c. q c })
    ]

pub shares_to : (s p : List ℕ) (n : ℕ) → n ≡ length (take (prefix_len same (zip s p)) (zip s p)) → Shares p s n
shares_to s p n e = subst (λ m. Shares p s m) (sym (e ∙ length-prefix_len same (zip s p))) (in_common s p)
