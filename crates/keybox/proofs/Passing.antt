-- What the box answers is what it asks of a slot: a list seals to the line.
use Rattle.std.proofs.Common.{◌≡◌, ℕ, ◌<◌, ◌≤◌, Bool, true, false, not, eqb, ltb, List, [], ◌++◌, length, get_or, drop, Some, None, Ok, Err, Option, unwrap_or, sym, refl, ap, ◌∙◌, subst, ⊎_elim, arith}
use Rattle.std.specs.List.{flat_map}
use Rattle.std.proofs.lemmas.Bool.{true≢false, eqb-true, ltb-true, ltb-false, leb-true, le-ltb, lt-ltb, eq-eqb}
use Rattle.refusal.specs.declared.Refusal.{Refusal}
use Rattle.hash.specs.declared.Strength.{Strength}
use Rattle.hash.specs.Strength.{siv_length}
use Rattle.stream.specs.Stream.{StreamOf}
use Rattle.hs1.specs.Seal.{opened}
use Rattle.hs1.proofs.Laws.{opened_was_sealed, sealed_opens}
use Rattle.shape.specs.Form.{WellShaped}
use Rattle.kinds.specs.Text.{Fills}
use Rattle.kinds.proofs.Sheets.{one_answer, reads_its_text}
use Rattle.sealed.specs.Line.{Parts, Lawful, SealedLine, header_of, sealed_line}
use Rattle.sealed.proofs.Pieces.{one_reading}
use Rattle.book.specs.declared.Slot.{Slot}
use Rattle.book.specs.Keys.{last_of, key_of, empty}
use Rattle.book.specs.Book.{slot_count}
use Rattle.book.specs.Law.{Passes}
use Rattle.sheet.specs.Sheet.{nonce_of, sealed_parts, sheet_line}
use Rattle.sheet.proofs.Lines as lines
use Rattle.sheet.proofs.Lists.{head, ready}
use Rattle.keybox.specs.Opening.{first_checks, sheet_text, Answered}
use Rattle.keybox.proofs.Opened.{length_opened}
use Rattle.keybox.proofs.Judged.{chain_none, chain_facts}

pub not_false : (b : Bool) → not b ≡ false → b ≡ true
not_false true e = refl
not_false false e = absurd (true≢false e)

-- parts by their fields
parts_is : (p : Parts) (v t : List ℕ) → v ≡ p.siv → t ≡ p.text → p ≡ record { slot = p.slot; kind = p.kind; serial = p.serial; siv = v; text = t }
parts_is p v t e h =
    ap (λ x. record { slot = p.slot; kind = p.kind; serial = p.serial; siv = x; text = p.text }) (sym e)
    ∙ ap (λ x. record { slot = p.slot; kind = p.kind; serial = p.serial; siv = v; text = x }) (sym h)

module _ {X : Type 0} (reading : List ℕ → Option X) (before after : List X) where
  pub split_ok : (n : ℕ) (o : Option Refusal) (t : Option (List ℕ)) → Answered o t reading before after (Ok n) → (o ≡ None) × ((u : List ℕ) × (t ≡ Some u) × Fills reading u before after (Ok n))
  split_ok n (Some w) t a = absurd (let e = a.0 in let z : ◌≡◌ {A = ℕ} 0 1 = cc in omega arith)
  split_ok n None None a = absurd (let e = a.0 in let z : ◌≡◌ {A = ℕ} 0 1 = cc in omega arith)
  split_ok n None (Some u) a = (refl, (u, refl, a))

module _ {X : Type 0} (f : StreamOf) (bytes : (seed nonce : List ℕ) (place : ℕ) → f.byte seed nonce place < 256) (s : Strength)
    (lawful : X → Bool) (line : X → List ℕ) (number : ℕ) (reading : List ℕ → Option X)
    (numbered : (1 ≤ number) × (number ≤ 9))
    (shaped : (x : X) → lawful x ≡ true → WellShaped (line x))
    (found : (x : X) → lawful x ≡ true → reading (line x) ≡ Some x)
    (sound : (l : List ℕ) (x : X) → reading l ≡ Some x → (lawful x ≡ true) × (line x ≡ l)) where
  module _ (slots : List Slot) (l : List ℕ) (work : ℕ) (before : List X) where
    abbrev pub Pass : (a m : ℕ) → List ℕ → List X → Type 0
    Pass a m key xs = Passes (sheet_line f s) lawful line number slots l work (length before) a m key xs

    -- no sealed line, no list
    pub unsealed : (SealedLine l → ⊥) → (a m : ℕ) (key : List ℕ) (xs : List X) → a < slot_count → Pass a m key xs → ⊥
    unfolding sheet_line
    unsealed never a m key xs ha p =
        never (_, lines.lawful_parts f bytes s a number m key (flat_map line xs) (head f bytes s lawful line number reading numbered shaped found sound a m ha p.seals.serial_first p.seals.serial_last) (ready f bytes s lawful line number reading numbered shaped found sound xs p.seals.are_lawful p.seals.short), p.seals.line_is)

    module _ (p : Parts) (is_lawful : Lawful p) (is_line : l ≡ sealed_line p) where
      abbrev slot : Slot
      slot = get_or slots p.slot empty

      -- what was answered with a count
      pub passed : (after : List X) (n : ℕ) → Answered (first_checks s slot number work p) (sheet_text f s slot p) reading before after (Ok n) → (key : List ℕ) × ((xs : List X) × Pass p.slot p.serial key xs × (n ≡ length xs) × (after ≡ xs ++ drop n before))
      unfolding sheet_line
      passed after n a =
          let o = split_ok reading before after n (first_checks s slot number work p) (sheet_text f s slot p) a in
          let facts = chain_facts (not (eqb p.kind number)) (key_of slot) (not (ltb (last_of slot) p.serial)) (not (eqb (length p.siv) (siv_length s))) (ltb work (length p.text)) o.0 in
          let kind : p.kind ≡ number = eqb-true p.kind number (not_false _ facts.0) in
          let key = facts.1.0 in
          let key_is : key_of slot ≡ Some key = facts.1.1 in
          let later : last_of slot < p.serial = ltb-true (last_of slot) p.serial (not_false _ facts.2) in
          let room : length p.text ≤ work = ltb-false work (length p.text) facts.4 in
          let t = o.1.0 in
          let nonce = nonce_of p.serial in
          let header = header_of p.slot p.kind p.serial in
          let opens : opened f s key nonce header p.siv p.text ≡ Some t =
          ap (λ k. opened f s (unwrap_or k []) nonce header p.siv p.text) (sym key_is) ∙ o.1.1 in
          let was = opened_was_sealed f s key nonce header p.siv p.text t opens in
          let t_long : length t ≡ length p.text = length_opened f bytes s key nonce header p.siv p.text t opens in
          let fill = o.1.2 in
          let xs = fill.0 in
          let reads = (reads_its_text reading lawful line shaped found sound t xs).0 fill.1 in
          let t_is : flat_map line xs ≡ t = reads.2 in
          let few_bytes : length p.text ≤ 16384 = leb-true (length p.text) 16384 is_lawful.text_long in
          let line_is : l ≡ sheet_line f s p.slot number p.serial key (flat_map line xs) =
          is_line ∙ ap sealed_line (parts_is p _ _ was.0 was.1)
          ∙ ap (λ k. sheet_line f s p.slot k p.serial key t) kind
          ∙ ap (sheet_line f s p.slot number p.serial key) (sym t_is) in (
            key,
            (
              xs,
              record {
                key_is = key_is;
                later = later;
                seals = record {
                  are_lawful = reads.0;
                  few = reads.1;
                  short = omega (arith, ap length t_is);
                  serial_first = omega (arith, is_lawful.head.serial_first);
                  serial_last = omega (arith, is_lawful.head.serial_last);
                  line_is = line_is;
                };
                space = omega (arith, ap length t_is);
                place = omega (arith, fill.2, fill.3);
              },
              fill.2,
              fill.4,
            ),
          )

      -- what was refused
      pub refused : (after : List X) (why : Refusal) → Answered (first_checks s slot number work p) (sheet_text f s slot p) reading before after (Err why) → (a m : ℕ) (key : List ℕ) (xs : List X) → a < slot_count → Pass a m key xs → ⊥
      unfolding sheet_line
      refused after why ans a m key xs ha ps =
          let text = flat_map line xs in
          let hd = head f bytes s lawful line number reading numbered shaped found sound a m ha ps.seals.serial_first ps.seals.serial_last in
          let q = sealed_parts f s a number m key text in
          let same : p ≡ q =
          one_reading p q is_lawful (lines.lawful_parts f bytes s a number m key text hd (ready f bytes s lawful line number reading numbered shaped found sound xs ps.seals.are_lawful ps.seals.short)) (sym is_line ∙ ps.seals.line_is) in
          let there = get_or slots a empty in
          let P : Parts → Type 0 = λ r. Answered (first_checks s (get_or slots r.slot empty) number work r) (sheet_text f s (get_or slots r.slot empty) r) reading before after (Err why) in
          let at_q : Answered (first_checks s there number work q) (sheet_text f s there q) reading before after (Err why) = subst P same ans in
          let nonce = nonce_of m in
          let header = header_of a number m in
          let none : first_checks s there number work q ≡ None =
          chain_none _ (key_of there) key _ _ _ (ap not (eq-eqb number number refl)) ps.key_is
          (ap not (lt-ltb (last_of there) m ps.later))
          (ap not (eq-eqb _ (siv_length s) (lines.length_siv f bytes s key nonce header text)))
          (le-ltb work _ (omega (arith, ps.space, lines.length_ciphertext f bytes s key nonce header text))) in
          let plain : sheet_text f s there q ≡ Some text =
          ap (λ k. opened f s (unwrap_or k []) nonce header q.siv q.text) ps.key_is ∙ sealed_opens f s key nonce header text in
          let Q : Option Refusal → Type 0 = λ o. Answered o (sheet_text f s there q) reading before after (Err why) in
          let R : Option (List ℕ) → Type 0 = λ t. Answered None t reading before after (Err why) in
          let fill : Fills reading text before after (Err why) = subst R plain (subst Q none at_q) in
          let reads = (reads_its_text reading lawful line shaped found sound text xs).1 ps.seals.are_lawful ps.seals.few refl in
          ⊎_elim
          (λ fault. (one_answer reading text).1 fault.0 fault.1 xs fault.2 reads)
          (λ small.
          let theirs = small.1.items in
          let ours = reads.items in
          let e : xs ≡ small.0 = cc in
          omega (arith, ap length e, small.2, ps.place))
          fill.0
