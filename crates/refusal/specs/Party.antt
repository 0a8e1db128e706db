-- Who makes a call refuse.
use Rattle.refusal.specs.declared.Party.{Party}
use Rattle.refusal.specs.declared.Party.TheVariants.{Caller, Sender, Operator}
use Rattle.refusal.specs.declared.Refusal.{Refusal}
use Rattle.refusal.specs.declared.Refusal.TheVariants.{ShortWork, SmallTray, PastStream, ShortOutput, UnknownSuite, NoSlot, KeyLength, RollUsedUp, UnlawfulItem, LargeSheet, NoSealedLine, OtherKind, WrongSiv, NoSheet, TooLong, SivLength, NonceLength, EmptySlot, StaleSerial}

abbrev pub party_of : Refusal → Party
-- the calling program: what it handed over, or how much room it gave
party_of ShortWork = Caller
party_of SmallTray = Caller
party_of PastStream = Caller
party_of ShortOutput = Caller
party_of UnknownSuite = Caller
party_of NoSlot = Caller
party_of KeyLength = Caller
party_of RollUsedUp = Caller
party_of (UnlawfulItem index) = Caller
party_of LargeSheet = Caller
party_of TooLong = Caller
party_of NonceLength = Caller
-- the sender or the carrier: what came is not what was sealed for here
party_of (NoSealedLine column) = Sender
party_of OtherKind = Sender
party_of WrongSiv = Sender
party_of (NoSheet line column) = Sender
party_of SivLength = Sender
-- the person at the table: which keys are set, which sheets were opened
party_of EmptySlot = Operator
party_of StaleSerial = Operator
