-- The number of each refusal.
use Rattle.std.specs.Prelude.{ℕ}
use Rattle.refusal.specs.declared.Refusal.{Refusal}
use Rattle.refusal.specs.declared.Refusal.TheVariants.{ShortWork, SmallTray, PastStream, ShortOutput, UnknownSuite, NoSlot, KeyLength, RollUsedUp, UnlawfulItem, LargeSheet, NoSealedLine, OtherKind, WrongSiv, NoSheet, TooLong, SivLength, NonceLength, EmptySlot, StaleSerial}

abbrev pub number_of : Refusal → ℕ
number_of ShortWork = 1
number_of SmallTray = 2
number_of PastStream = 3
number_of ShortOutput = 4
number_of UnknownSuite = 5
number_of NoSlot = 6
number_of KeyLength = 7
number_of RollUsedUp = 8
number_of (UnlawfulItem index) = 9
number_of LargeSheet = 10
number_of (NoSealedLine column) = 11
number_of OtherKind = 12
number_of WrongSiv = 13
number_of (NoSheet line column) = 14
number_of TooLong = 15
number_of SivLength = 16
number_of NonceLength = 17
number_of EmptySlot = 21
number_of StaleSerial = 22
