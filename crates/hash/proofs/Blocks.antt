-- Inputs in blocks.
use Rattle.std.proofs.Common.{◌≡◌, ℕ, suc, ◌+◌, ◌-◌, ◌*◌, ◌/◌, ◌%◌, ◌^◌, ◌<◌, ◌≤◌, List, [], ◌∷◌, ◌++◌, length, get_or, take, drop, replicate, sym, refl, ap, ◌∙◌, subst, append_assoc, append-nil, arith}
use Rattle.std.proofs.lemmas.List.{length-append, length-replicate, take_at, drop_at, take-replicate, replicate-append-replicate}
use Rattle.hash.specs.declared.HashKeys.{HashKeys}
use Rattle.hash.specs.declared.Hasher.{Hasher}
use Rattle.hash.specs.declared.Strength.{Strength}
use Rattle.hash.specs.Strength.{hashes}
use Rattle.hash.specs.Bytes.{pad, ints, ints_of}
use Rattle.hash.specs.Nh.{nh}
use Rattle.hash.specs.Hash.{cut, blocks, block_number, turn, turned, h_of}
use Rattle.hash.specs.Running.{nh_part, poly_point}
use Rattle.hash.specs.Hasher.{Turns, Takes, Passes, Holds, ending}
use Rattle.hash.proofs.Ints.{take_ints, ints_append}

-- a multiple of n is not padded
pub pad_whole : (s : List ℕ) → length s % 16 ≡ 0 → pad 16 s ≡ s
pad_whole s h =
    let n : (16 - length s % 16) % 16 ≡ 0 = omega arith in
    ap (λ x. s ++ replicate x 0) n ∙ append-nil s

-- the number of a block of 64 bytes
pub whole_number : (k b : List ℕ) → length b ≡ 64 → nh k (ints 4 b) % 2 ^ 60 + 0 ≡ block_number k b
unfolding block_number
whole_number k b h =
    let p = pad_whole b (omega arith) in
    let z : length b % 16 ≡ 0 = omega arith in
    ap (λ x. nh k (ints 4 x) % 2 ^ 60 + 0) (sym p) ∙ ap (λ x. nh k (ints 4 (pad 16 b)) % 2 ^ 60 + x) (sym z)

-- a block of 64 bytes in front of more input
pub turned_block : (k : List ℕ) (kP h : ℕ) (b m : List ℕ) → length b ≡ 64 → 0 < length m → turned k kP h (blocks (b ++ m)) ≡ turned k kP (turn kP h (block_number k b)) (blocks m)
turned_block k kP h b m e lt =
    let n : (length (b ++ m) - 1) / 64 ≡ suc ((length m - 1) / 64) = omega (arith, length-append b m) in
    let c : cut ((length (b ++ m) - 1) / 64) (b ++ m) ≡ b ∷ cut ((length m - 1) / 64) m =
    ap (λ x. cut x (b ++ m)) n
    ∙ ap (λ x. x ∷ cut ((length m - 1) / 64) (drop 64 (b ++ m))) (take_at b m 64 e)
    ∙ ap (λ x. b ∷ cut ((length m - 1) / 64) x) (drop_at b m 64 e)
    in
    ap (turned k kP h) c

-- a last block of at most 64 bytes
pub turned_last : (k : List ℕ) (kP h : ℕ) (b : List ℕ) → length b ≤ 64 → turned k kP h (blocks b) ≡ turn kP h (block_number k b)
turned_last k kP h b e =
    let n : (length b - 1) / 64 ≡ 0 = omega arith in
    ap (λ x. turned k kP h (cut x b)) n

-- The steps of a running hash.

-- nothing taken in yet
pub none_waits : (st : Strength) (s : Hasher) → s.strength ≡ st → s.waiting ≡ [] → ((i : ℕ) → i < hashes st → get_or s.running i 0 ≡ 1) → Holds st s.keys.now s []
unfolding ending h_of
none_waits st s e w f =
    record {
      strength_is = e;
      keys_are = refl;
      ends = λ i lt more.
          let k = nh_part s.keys.now i in
          let kP = poly_point s.keys.now i in
          ap (λ x. turned k kP (get_or s.running i 0) (blocks (x ++ more))) w ∙ ap (λ x. turned k kP x (blocks more)) (f i lt);
    }

-- the words of a block in the place of the block
pub turns_same : (a b : ℕ → ℕ) (s s' : Hasher) → ((i : ℕ) → a i ≡ b i) → Turns a s s' → Turns b s s'
turns_same a b s s' e h =
    record {
      strength_stays = h.strength_stays;
      keys_stay = h.keys_stay;
      waiting_stays = h.waiting_stays;
      turns = λ i lt. h.turns i lt ∙ ap (turn (poly_point s.keys.now i) (get_or s.running i 0)) (e i);
    }

-- a whole block in front of more input, turned: b waits, or it comes from the input while none wait
module _ (s mid s' : Hasher) (b part : List ℕ) (n : length b ≡ 64) (w : s.waiting ++ part ≡ b) (h : Turns (λ i. block_number (nh_part s.keys.now i) b) s mid) (st : s'.strength ≡ mid.strength) (ks : s'.keys ≡ mid.keys) (z : s'.waiting ≡ []) (r : s'.running ≡ mid.running) where
  pub block_turned : Takes s part s'
  unfolding ending
  block_turned =
      record {
        strength_stays = st ∙ h.strength_stays;
        keys_stay = ks ∙ h.keys_stay;
        ends = λ i lt more some.
            let k = nh_part s.keys.now i in
            let kP = poly_point s.keys.now i in
            ap (λ x. turned (nh_part x.now i) (poly_point x.now i) (get_or s'.running i 0) (blocks (s'.waiting ++ more))) (ks ∙ h.keys_stay)
            ∙ ap (λ x. turned k kP (get_or s'.running i 0) (blocks (x ++ more))) z
            ∙ ap (λ x. turned k kP (get_or x i 0) (blocks more)) r
            ∙ ap (λ x. turned k kP x (blocks more)) (h.turns i lt)
            ∙ sym (turned_block k kP (get_or s.running i 0) b more n some)
            ∙ ap (λ x. turned k kP (get_or s.running i 0) (blocks (x ++ more))) (sym w)
            ∙ ap (λ x. turned k kP (get_or s.running i 0) (blocks x)) (append_assoc s.waiting part more);
      }

-- bytes that wait
pub some_wait : (s s' : Hasher) (part rest : List ℕ) → s'.strength ≡ s.strength → s'.keys ≡ s.keys → s'.running ≡ s.running → s'.waiting ++ rest ≡ s.waiting ++ part → Passes s part rest s'
unfolding ending
some_wait s s' part rest st ks e w =
    record {
      strength_stays = st;
      keys_stay = ks;
      ends = λ i lt more.
          let k = nh_part s.keys.now i in
          let kP = poly_point s.keys.now i in
          ap (λ x. turned (nh_part x.now i) (poly_point x.now i) (get_or s'.running i 0) (blocks (s'.waiting ++ (rest ++ more)))) ks
          ∙ ap (λ x. turned k kP (get_or x i 0) (blocks (s'.waiting ++ (rest ++ more)))) e
          ∙ ap (λ x. turned k kP (get_or s.running i 0) (blocks x)) (sym (append_assoc s'.waiting rest more) ∙ ap (λ x. x ++ more) w ∙ append_assoc s.waiting part more);
    }

-- room made, and then a block taken from the front of a longer part
pub pass_block : (s s' s'' : Hasher) (part block rest : List ℕ) → Takes s [] s' → Takes s' block s'' → block ++ rest ≡ part → 0 < length rest → Passes s part rest s''
pass_block s s' s'' part block rest f g e some =
    record {
      strength_stays = g.strength_stays ∙ f.strength_stays;
      keys_stay = g.keys_stay ∙ f.keys_stay;
      ends = λ i l more.
          let a = length-append rest more in
          let b = length-append part more in
          let c = length-append block rest in
          let n : 0 < length (part ++ more) = omega (arith, ap length e) in
          g.ends i (rw f.strength_stays l) (rest ++ more) (omega arith)
          ∙ ap (ending s' i) (sym (append_assoc block rest more) ∙ ap (λ x. x ++ more) e)
          ∙ f.ends i l (part ++ more) n;
    }

-- room made, and then some bytes taken
pub pass_some : (s s' s'' : Hasher) (part rest : List ℕ) → Takes s [] s' → Passes s' part rest s'' → 0 < length part → Passes s part rest s''
pass_some s s' s'' part rest f g some =
    record {
      strength_stays = g.strength_stays ∙ f.strength_stays;
      keys_stay = g.keys_stay ∙ f.keys_stay;
      ends = λ i l more. g.ends i (rw f.strength_stays l) more ∙ f.ends i l (part ++ more) (omega (arith, length-append part more));
    }

-- a part taken in whole
pub pass_all : (s s' : Hasher) (part rest : List ℕ) → rest ≡ [] → Passes s part rest s' → (st : Strength) (keys : HashKeys) (seen : List ℕ) → Holds st keys s seen → Holds st keys s' (seen ++ part)
pass_all s s' part rest z f st keys seen h =
    record {
      strength_is = f.strength_stays ∙ h.strength_is;
      keys_are = ap (λ x. x.now) f.keys_stay ∙ h.keys_are;
      ends = λ i l more.
          ap (λ x. ending s' i (x ++ more)) (sym z)
          ∙ f.ends i (rw h.strength_is l) more
          ∙ h.ends i l (part ++ more)
          ∙ ap (h_of (nh_part keys i) (poly_point keys i)) (sym (append_assoc seen part more));
    }

-- a whole block, as it waits
pub full_block : (w b : List ℕ) → length w ≡ 64 → b ≡ w ++ replicate (64 - length w) 0 → w ++ [] ≡ b
full_block w b n e = let z : 64 - length w ≡ 0 = omega arith in sym (e ∙ ap (λ x. w ++ replicate x 0) z)

-- the words of a last block, which is padded to 64 bytes in the code and to a multiple of 16 in the definition
pub last_words : (b block words : List ℕ) (c : ℕ) → length b ≤ 64 → c ≡ (length b + 15) / 16 * 4 → block ≡ b ++ replicate (64 - length b) 0 → words ≡ ints 4 block → take c words ≡ ints 4 (pad 16 b)
last_words b block words c le n f w =
    let z = (16 - length b % 16) % 16 in
    let tail : List ℕ = replicate (64 - length b - z) 0 in
    let split : pad 16 b ++ tail ≡ block =
    append_assoc b (replicate z 0) tail
    ∙ ap (λ x. b ++ x) (replicate-append-replicate z (64 - length b - z) 0 ∙ ap (λ x. replicate x 0) (omega arith))
    ∙ sym f
    in
    let l : length block ≡ 64 = ap length f ∙ length-append b (replicate (64 - length b) 0) ∙ ap (λ x. length b + x) (length-replicate (64 - length b) 0) ∙ omega arith in
    let lp : length (pad 16 b) ≡ length b + z = length-append b (replicate z 0) ∙ ap (λ x. length b + x) (length-replicate z 0) in
    let part : ints_of 4 c block ≡ ints_of 4 c (pad 16 b) = ap (ints_of 4 c) (sym split) ∙ ints_append 4 c (pad 16 b) tail (omega arith) in
    let count : c ≡ length (pad 16 b) / 4 = omega arith in
    ap (take c) (w ∙ ap (λ x. ints_of 4 (x / 4) block) l) ∙ take_ints 4 c 16 block (omega arith) ∙ part ∙ ap (λ x. ints_of 4 x (pad 16 b)) count

-- the last block, turned
pub last_turned : (s s' : Hasher) (words : List ℕ) (odd : ℕ) → length s.waiting ≤ 64 → words ≡ ints 4 (pad 16 s.waiting) → odd ≡ length s.waiting % 16 → Turns (λ i. nh (nh_part s.keys.now i) words % 2 ^ 60 + odd) s s' → (i : ℕ) → i < hashes s.strength → get_or s'.running i 0 ≡ ending s i []
unfolding ending block_number
last_turned s s' words odd fits w o h i lt =
    let k = nh_part s.keys.now i in
    let kP = poly_point s.keys.now i in
    let b = s.waiting in
    let r = get_or s.running i 0 in
    let a : nh k words % 2 ^ 60 + odd ≡ block_number k b = ap (λ x. nh k x % 2 ^ 60 + odd) w ∙ ap (λ x. nh k (ints 4 (pad 16 b)) % 2 ^ 60 + x) o in
    h.turns i lt
    ∙ ap (turn kP r) a
    ∙ sym (turned_last k kP r b fits)
    ∙ ap (λ x. turned k kP r (blocks x)) (sym (append-nil b))

-- zeros taken in behind a part
pub holds_padded : (st : Strength) (keys : HashKeys) (s : Hasher) (seen part : List ℕ) → Holds st keys s ((seen ++ part) ++ take ((16 - length part % 16) % 16) (replicate 16 0)) → Holds st keys s (seen ++ pad 16 part)
holds_padded st keys s seen part h =
    let z = (16 - length part % 16) % 16 in
    let e : (seen ++ part) ++ take z (replicate 16 0) ≡ seen ++ pad 16 part =
    ap (λ x. (seen ++ part) ++ x) (take-replicate z 16 0 (omega arith)) ∙ append_assoc seen part (replicate z 0)
    in
    subst (Holds st keys s) e h
