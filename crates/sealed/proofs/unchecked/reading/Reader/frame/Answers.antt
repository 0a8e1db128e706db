use Rattle.std.proofs.Common.{Ok, codes, sym, ◌∙◌}
use Rattle.std.proofs.lemmas.Bool.{false≢true}
use Rattle.std.proofs.lemmas.Result.{err_from_is_err_and}
use Rattle.sealed.specs.Frame.{FindsDigits, ReadsLiteral}
use Rattle.sealed.specs.Limits.{longest_siv, longest_text}
use Rattle.sealed.proofs.Frames.{siv_fault, siv_other, text_fault, end_fault, whole_read, made_lawful, made_line, made_header}
use Rattle.sealed.proofs.unchecked.reading.Reader.frame.Goals as goal

pub returns-in_err-siv-clause-reads : goal.returns-in_err-siv-clause-reads
returns-in_err-siv-clause-reads c =
    let s = c.args.self.now.line.now in
    let p = err_from_is_err_and c.from_residual-in_err-siv.result c.from_residual-in_err-siv.ensures.1 in
    rw (p.1, p.2) (siv_fault s _ _ _ _ c.in_ok-label.ensures.reads 0 _ (rw c.label.ensures.same at c.in_err-siv.ensures.reads))

pub returns-then-not-is_siv_len-clause-reads : goal.returns-then-not-is_siv_len-clause-reads
returns-then-not-is_siv_len-clause-reads c =
    let s = c.args.self.now.line.now in
    siv_other s _ _ _ _ c.in_ok-label.ensures.reads c.in_ok-siv.siv.now _ (rw c.label.ensures.same at c.in_ok-siv.ensures.reads) (λ ok. false≢true (c.if-not-is_siv_len.ensures ∙ ok))

pub returns-in_err-text-clause-reads : goal.returns-in_err-text-clause-reads
returns-in_err-text-clause-reads c =
    let s = c.args.self.now.line.now in
    let f : FindsDigits (codes ") (siv ") longest_siv s c.label.new.self.at c.digits.new.self.at c.in_ok-siv.siv.now = rw c.label.ensures.same at c.in_ok-siv.ensures.reads in
    let p = err_from_is_err_and c.from_residual-in_err-text.result c.from_residual-in_err-text.ensures.1 in
    rw (p.1, p.2) (text_fault s _ _ _ _ c.in_ok-label.ensures.reads c.in_ok-siv.siv.now _ f (sym c.if-not-is_siv_len.ensures) 0 _ (rw (c.digits.ensures.same, c.label.ensures.same) at c.in_err-text.ensures.reads))

pub returns-in_err-literal-clause-reads : goal.returns-in_err-literal-clause-reads
returns-in_err-literal-clause-reads c =
    let s = c.args.self.now.line.now in
    let f : FindsDigits (codes ") (siv ") longest_siv s c.label.new.self.at c.digits.new.self.at c.in_ok-siv.siv.now = rw c.label.ensures.same at c.in_ok-siv.ensures.reads in
    let g : FindsDigits (codes ") (text ") longest_text s c.digits.new.self.at c.digits-2.new.self.at c.in_ok-text.text.now = rw (c.digits.ensures.same, c.label.ensures.same) at c.in_ok-text.ensures.reads in
    let p = err_from_is_err_and c.from_residual-in_err-literal.result c.from_residual-in_err-literal.ensures.1 in
    rw (p.1, p.2) (end_fault s _ _ _ _ c.in_ok-label.ensures.reads c.in_ok-siv.siv.now _ f (sym c.if-not-is_siv_len.ensures) c.in_ok-text.text.now _ g 0 _ (rw (c.digits-2.ensures.same, c.digits.ensures.same, c.label.ensures.same) at c.in_err-literal.ensures.reads))

pub invariant_of-result : goal.invariant_of-result
invariant_of-result c =
    let s = c.args.self.now.line.now in
    let f : FindsDigits (codes ") (siv ") longest_siv s c.label.new.self.at c.digits.new.self.at c.in_ok-siv.siv.now = rw c.label.ensures.same at c.in_ok-siv.ensures.reads in
    let g : FindsDigits (codes ") (text ") longest_text s c.digits.new.self.at c.digits-2.new.self.at c.in_ok-text.text.now = rw (c.digits.ensures.same, c.label.ensures.same) at c.in_ok-text.ensures.reads in
    let o : ReadsLiteral (codes "))") s c.digits-2.new.self.at c.literal.new.self.at (Ok tt) = rw (c.digits-2.ensures.same, c.digits.ensures.same, c.label.ensures.same) at c.in_ok-literal.ensures.reads in
    let ok = sym c.if-not-is_siv_len.ensures in
    let a = made_lawful s _ _ _ _ c.in_ok-label.ensures.reads c.in_ok-siv.siv.now _ f ok c.in_ok-text.text.now _ g _ o in
    record { numbers = a.head; siv_long = a.siv_long; text_long = a.text_long; head = rw (c.literal.ensures.same, c.digits-2.ensures.same, c.digits.ensures.same, c.label.ensures.same) (made_header s _ _ _ _ c.in_ok-label.ensures.reads c.in_ok-siv.siv.now _ f ok c.in_ok-text.text.now _ g _ o) }

pub returns-clause-reads : goal.returns-clause-reads
returns-clause-reads c =
    let s = c.args.self.now.line.now in
    let f : FindsDigits (codes ") (siv ") longest_siv s c.label.new.self.at c.digits.new.self.at c.in_ok-siv.siv.now = rw c.label.ensures.same at c.in_ok-siv.ensures.reads in
    let g : FindsDigits (codes ") (text ") longest_text s c.digits.new.self.at c.digits-2.new.self.at c.in_ok-text.text.now = rw (c.digits.ensures.same, c.label.ensures.same) at c.in_ok-text.ensures.reads in
    let o : ReadsLiteral (codes "))") s c.digits-2.new.self.at c.literal.new.self.at (Ok tt) = rw (c.digits-2.ensures.same, c.digits.ensures.same, c.label.ensures.same) at c.in_ok-literal.ensures.reads in
    let ok = sym c.if-not-is_siv_len.ensures in (
      whole_read s _ _ _ _ c.in_ok-label.ensures.reads c.in_ok-siv.siv.now _ f ok c.in_ok-text.text.now _ g _ o,
      record { lawful = made_lawful s _ _ _ _ c.in_ok-label.ensures.reads c.in_ok-siv.siv.now _ f ok c.in_ok-text.text.now _ g _ o; line = made_line s _ _ _ _ c.in_ok-label.ensures.reads c.in_ok-siv.siv.now _ f ok c.in_ok-text.text.now _ g _ o; head = rw (c.literal.ensures.same, c.digits-2.ensures.same, c.digits.ensures.same, c.label.ensures.same) (made_header s _ _ _ _ c.in_ok-label.ensures.reads c.in_ok-siv.siv.now _ f ok c.in_ok-text.text.now _ g _ o) },
    )
