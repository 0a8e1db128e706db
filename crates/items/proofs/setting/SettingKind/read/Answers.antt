use Rattle.std.proofs.Common.{◌≡◌, ℕ, true, ℤ, Some, None, Option, MatchOption, ◌≢◌, refl}
use Rattle.items.specs.declared.setting.SettingItem.{SettingItem}
use Rattle.items.specs.Setting.{setting_lawful, setting_line, setting_reading}
use Rattle.items.specs.declared.setting.SettingItem.TheVariants.{Speed, Press, Tool}
use Rattle.items.specs.Settings.{setting_answer, no_setting}
use Rattle.items.proofs.setting.SettingKind.read.Goals as goal

pub returns-in-Some : goal.returns-in-Some
returns-in-Some c = setting_answer c.args.text.now (Speed c.in-Some.value) c.in-Some.ensures

pub returns-in-Some-read_lone : goal.returns-in-Some-read_lone
returns-in-Some-read_lone c = setting_answer c.args.text.now (Press c.in-Some-read_lone.value) c.in-Some-read_lone.ensures

pub returns : goal.returns
returns c = tool_tried c.read_tool.result c.read_tool.ensures
  where
    tool_tried : (r : Option SettingItem) → MatchOption r ((n : ℕ) (o : ℤ) → setting_lawful (Tool n o) ≡ true → setting_line (Tool n o) ≢ c.args.text.now) (λ x. (setting_lawful x ≡ true) × (setting_line x ≡ c.args.text.now)) → r ≡ setting_reading c.args.text.now
    tool_tried None no' = no_setting c.args.text.now (c.in_default.ensures refl) (c.in_default-read_lone.ensures refl) no'
    tool_tried (Some x) is = setting_answer c.args.text.now x is
