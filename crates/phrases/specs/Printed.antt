-- The lines that the programs print.
use Rattle.std.specs.Prelude.{ℕ, List, [], ◌++◌, length, codes}
use Rattle.std.specs.List.{flat_map}
use Rattle.refusal.specs.declared.Refusal.{Refusal}
use Rattle.refusal.specs.declared.Refusal.TheVariants.{ShortWork, SmallTray, PastStream, ShortOutput, UnknownSuite, NoSlot, KeyLength, RollUsedUp, UnlawfulItem, LargeSheet, NoSealedLine, OtherKind, WrongSiv, NoSheet, TooLong, SivLength, NonceLength, EmptySlot, StaleSerial}
use Rattle.refusal.specs.Number.{number_of}
use Rattle.shape.specs.Decimal.{figures}

-- The values of a refusal, each as a form of its own.
abbrev pub values : Refusal → List ℕ
values (UnlawfulItem index) = codes " (index " ++ (figures index ++ codes ")")
values (NoSealedLine column) = codes " (column " ++ (figures column ++ codes ")")
values (NoSheet line column) = codes " (line " ++ (figures line ++ (codes ") (column " ++ (figures column ++ codes ")")))
values ShortWork = []
values SmallTray = []
values PastStream = []
values ShortOutput = []
values UnknownSuite = []
values NoSlot = []
values KeyLength = []
values RollUsedUp = []
values LargeSheet = []
values OtherKind = []
values WrongSiv = []
values TooLong = []
values SivLength = []
values NonceLength = []
values EmptySlot = []
values StaleSerial = []

-- The line of a refusal: its number and its values.
abbrev pub refused_line : Refusal → List ℕ
refused_line why = codes "(refused " ++ (figures (number_of why) ++ (values why ++ codes ")\n"))

-- The line before the items of a sheet that was opened: how many they are.
abbrev pub opened_line : ℕ → List ℕ
opened_line count = codes "(opened " ++ (figures count ++ codes ")\n")

-- What is printed of a sheet that was opened: how many items, and the line of each.
abbrev pub opened_lines : {X : Type 0} → (X → List ℕ) → List X → List ℕ
opened_lines line items = opened_line (length items) ++ flat_map line items
