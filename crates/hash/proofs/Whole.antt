-- From a hasher that has taken in the whole input to the joined results.
use Rattle.std.proofs.Common.{◌≡◌, ℕ, ◌+◌, ◌-◌, ◌*◌, ◌%◌, ◌^◌, ◌<◌, ◌≤◌, List, [], ◌++◌, length, get_or, take, drop, sym, ap, ◌∙◌, append_assoc, append-nil, arith}
use Rattle.std.proofs.lemmas.List.{drop-take, take-take, get_or-take}
use Rattle.hash.specs.declared.HashKeys.{HashKeys}
use Rattle.hash.specs.declared.Hasher.{Hasher}
use Rattle.hash.specs.declared.Strength.{Strength}
use Rattle.hash.specs.declared.Strength.TheVariants.{Lo, Mid, Hi}
use Rattle.hash.specs.Strength.{hashes, nh_words}
use Rattle.hash.specs.Bytes.{pad, str}
use Rattle.hash.specs.Hash.{h_of, h_at, results, hashed, below60}
use Rattle.hash.specs.Running.{nh_part, poly_point}
use Rattle.hash.specs.Hasher.{Holds, ending}
use Rattle.hash.specs.Subkeys.{kn_of, kp_of, hashed_by, Reads}
use Rattle.hash.specs.Message.{message}
use Rattle.hash.proofs.Results.{results_same, results_parts, get_or_below60}

-- the results for h of an input, as a hasher that has taken it in ends with them
pub hashed_from : (st : Strength) (keys : HashKeys) (s s' : Hasher) (m r : List ℕ) → Holds st keys s m → s'.strength ≡ s.strength → s'.keys ≡ s.keys → ((i : ℕ) → i < hashes s.strength → get_or s'.running i 0 ≡ ending s i []) → r ≡ pad 32 (results s'.strength s'.keys.now.k_a (λ i. get_or s'.running i 0) (hashes s'.strength)) → r ≡ hashed st keys.k_n (below60 keys.k_p) keys.k_a m
unfolding hashed h_at
hashed_from st keys s s' m r h t k f g =
    g
    ∙ ap (λ x. pad 32 (results x s'.keys.now.k_a (λ i. get_or s'.running i 0) (hashes x))) (t ∙ h.strength_is)
    ∙ ap (λ x. pad 32 (results st x.k_a (λ i. get_or s'.running i 0) (hashes st))) (ap (λ x. x.now) k ∙ h.keys_are)
    ∙ ap (pad 32) (results_same st keys.k_a _ _ (hashes st) (λ i lt.
    f i (rw h.strength_is lt)
    ∙ h.ends i lt []
    ∙ ap (h_of (nh_part keys i) (poly_point keys i)) (append-nil m)
    ∙ ap (λ x. h_of (nh_part keys i) x m) (sym (get_or_below60 keys.k_p i))))

-- the message, taken in part by part
pub message_is : (header text a b : List ℕ) → a ≡ str 8 (length header) → b ≡ str 8 (length text) → ((([] ++ pad 16 header) ++ pad 16 text) ++ a) ++ b ≡ message header text
unfolding message
message_is header text a b e f =
    append_assoc (pad 16 header ++ pad 16 text) a b
    ∙ append_assoc (pad 16 header) (pad 16 text) (a ++ b)
    ∙ ap (λ x. pad 16 header ++ (pad 16 text ++ (x ++ b))) e
    ∙ ap (λ x. pad 16 header ++ (pad 16 text ++ (str 8 (length header) ++ x))) f

pub hashes_le : (s : Strength) → hashes s ≤ 6
hashes_le Lo = omega arith
hashes_le Mid = omega arith
hashes_le Hi = omega arith

pub hashes_some : (s : Strength) → 2 ≤ hashes s
hashes_some Lo = omega arith
hashes_some Mid = omega arith
hashes_some Hi = omega arith

-- a part of a part that lies within it
pub part_within : (a n w : ℕ) (xs : List ℕ) → a + n ≤ w → take n (drop a (take w xs)) ≡ take n (drop a xs)
part_within a n w xs h =
    let e : a + (w - a) ≡ w = omega arith in
    ap (λ x. take n (drop a (take x xs))) (sym e)
    ∙ ap (take n) (drop-take a (w - a) xs)
    ∙ take-take n (w - a) (drop a xs) (omega arith)

-- the hash looks at no more than the subkeys of its strength
pub hashed_front : (s : Strength) (kN kP kA m : List ℕ) → hashed s (take (nh_words s) kN) (below60 (take (hashes s) kP)) (take (3 * hashes s) kA) m ≡ hashed s kN (below60 kP) kA m
unfolding hashed h_at
hashed_front s kN kP kA m =
    let t = hashes s in
    let some = hashes_some s in
    ap (pad 32) (
    results_parts s (take (3 * t) kA) kA _ t (λ i lt. part_within (3 * i) 3 (3 * t) kA (omega arith))
    ∙ results_same s kA _ _ t (λ i lt.
    ap (λ x. h_of x (get_or (below60 (take t kP)) i 0) m) (part_within (4 * i) 16 (nh_words s) kN (omega arith))
    ∙ ap (λ x. h_of (take 16 (drop (4 * i) kN)) x m) (get_or_below60 (take t kP) i ∙ ap (λ x. x % 2 ^ 60) (get_or-take t kP i 0 lt) ∙ sym (get_or_below60 kP i))))

-- the hash under the subkeys that were read
pub hashed_read : (s : Strength) (bytes : List ℕ) (keys : HashKeys) (m : List ℕ) → Reads s bytes keys → hashed s keys.k_n (below60 keys.k_p) keys.k_a m ≡ hashed_by s bytes m
unfolding hashed_by
hashed_read s bytes keys m r =
    sym (hashed_front s keys.k_n keys.k_p keys.k_a m)
    ∙ ap (λ x. hashed s x (below60 (take (hashes s) keys.k_p)) (take (3 * hashes s) keys.k_a) m) r.words
    ∙ ap (λ x. hashed s (kn_of s bytes) x (take (3 * hashes s) keys.k_a) m) r.points
    ∙ ap (λ x. hashed s (kn_of s bytes) (kp_of s bytes) x m) r.scales
