-- Kind 1, jobs: what the table is to do, one step to an item.
use Rattle.std.specs.Prelude.{ℕ, Bool, cond, List, [], ◌∷◌, ℤ, pos, negsuc, Some, None, codes, Option, unsigned_abs}
use Rattle.std.specs.Str.{bytes_eq}
use Rattle.patterns.specs.declared.Range.{Range}
use Rattle.patterns.specs.Pattern.{spelt, in_ranges}
use Rattle.patterns.specs.Finding.{word, numbers, having}
use Rattle.items.specs.declared.job.Point.{Point}
use Rattle.items.specs.declared.job.JobItem.{JobItem}
use Rattle.items.specs.declared.job.JobItem.TheVariants.{Panel, Move, Cut, Mark, Arc, End}

-- the line, with a "#" for each number
abbrev pub job_pattern : JobItem → List ℕ
job_pattern (Panel number cloth) = codes "(panel # (cloth #))\n"
job_pattern (Move to) = codes "(move (x #) (y #))\n"
job_pattern (Cut to) = codes "(cut (x #) (y #))\n"
job_pattern (Mark to) = codes "(mark (x #) (y #))\n"
job_pattern (Arc via to) = codes "(arc (via (x #) (y #)) (to (x #) (y #)))\n"
job_pattern End = codes "(end)\n"

-- the numbers, from left to right
abbrev pub job_values : JobItem → List ℤ
job_values (Panel number cloth) = pos number ∷ pos cloth ∷ []
job_values (Move to) = to.x ∷ to.y ∷ []
job_values (Cut to) = to.x ∷ to.y ∷ []
job_values (Mark to) = to.x ∷ to.y ∷ []
job_values (Arc via to) = via.x ∷ via.y ∷ to.x ∷ to.y ∷ []
job_values End = []

abbrev pub panel_numbers : Range
panel_numbers = record { low = pos 1; high = pos 9999 }

abbrev pub cloth_numbers : Range
cloth_numbers = record { low = pos 1; high = pos 99 }

-- tenths of a millimetre, from -500,000 to 500,000
abbrev pub coordinates : Range
coordinates = record { low = negsuc 499999; high = pos 500000 }

-- the range of each number
abbrev pub job_ranges : JobItem → List Range
job_ranges (Panel number cloth) = panel_numbers ∷ cloth_numbers ∷ []
job_ranges (Move to) = coordinates ∷ coordinates ∷ []
job_ranges (Cut to) = coordinates ∷ coordinates ∷ []
job_ranges (Mark to) = coordinates ∷ coordinates ∷ []
job_ranges (Arc via to) = coordinates ∷ coordinates ∷ coordinates ∷ coordinates ∷ []
job_ranges End = []

-- an item is lawful if each of its numbers is in its range
abbrev pub job_lawful : JobItem → Bool
job_lawful item = in_ranges (job_ranges item) (job_values item)

abbrev pub job_line : JobItem → List ℕ
job_line item = spelt (job_pattern item) (job_values item)

-- the item of a word and numbers
abbrev pub panel_of : List ℤ → Option JobItem
panel_of [] = None
panel_of (n ∷ []) = None
panel_of (n ∷ c ∷ vs) = Some (Panel (unsigned_abs n) (unsigned_abs c))

abbrev pub point_of : (Point → JobItem) → List ℤ → Option JobItem
point_of item [] = None
point_of item (x ∷ []) = None
point_of item (x ∷ y ∷ vs) = Some (item (record { x = x; y = y }))

abbrev pub arc_of : List ℤ → Option JobItem
arc_of [] = None
arc_of (x ∷ []) = None
arc_of (x ∷ y ∷ []) = None
arc_of (x ∷ y ∷ z ∷ []) = None
arc_of (x ∷ y ∷ z ∷ w ∷ vs) = Some (Arc (record { x = x; y = y }) (record { x = z; y = w }))

abbrev pub job_named : List ℕ → List ℤ → Option JobItem
job_named w vs =
    cond (bytes_eq w (codes "panel")) (panel_of vs)
    (cond (bytes_eq w (codes "move")) (point_of Move vs)
    (cond (bytes_eq w (codes "cut")) (point_of Cut vs)
    (cond (bytes_eq w (codes "mark")) (point_of Mark vs)
    (cond (bytes_eq w (codes "arc")) (arc_of vs)
    (cond (bytes_eq w (codes "end")) (Some End) None)))))

-- the lawful item that has a line: the one that its word and numbers name, if it is lawful and has that line
abbrev pub job_reading : List ℕ → Option JobItem
job_reading l = having job_lawful job_line l (job_named (word l) (numbers l))
