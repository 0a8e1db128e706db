use Rattle.std.proofs.Common.{◌≡◌, [], ◌∷◌, pos, codes, sym, subst, ap₂, w32, to_z, of_z, rules}
use Rattle.kinds.specs.Kind.{Writes}
use Rattle.patterns.specs.Pattern.{in_ranges, spelt}
use Rattle.items.specs.Setting.{tool_numbers, offsets, setting_lawful, setting_line}
use Rattle.items.proofs.setting.SettingKind.write.Goals as goal

pub returns-in-Tool : goal.returns-in-Tool
returns-in-Tool c =
    let n : to_z w32 (of_z w32 c.from-in-Tool.result) ≡ pos c.in-Tool.number = search rules in
    let o : to_z w32 (of_z w32 c.in-Tool.offset) ≡ c.in-Tool.offset = search rules in
    subst (λ y. Writes (setting_lawful y) (setting_line y) c.args.out.now c.write-in-Tool.new.out c.write-in-Tool.result) (sym c.in-Tool.is)
    (subst (λ vs. Writes (in_ranges (tool_numbers ∷ offsets ∷ []) vs) (spelt (codes "(tool # (offset #))\n") vs) c.args.out.now c.write-in-Tool.new.out c.write-in-Tool.result) (ap₂ (λ a b. a ∷ b ∷ []) n o) c.write-in-Tool.ensures)
