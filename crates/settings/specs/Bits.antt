-- The settings byte (document 01, "Session sheet and its program"; bits 4, 8 and 16 of document 02). Assumes nothing.
use Rattle.std.specs.Prelude.{ℕ, ◌/◌, ◌%◌, Bool, true, false, eqb, ltb}
use Rattle.widths.specs.declared.Rule.{Rule}
use Rattle.colour.specs.declared.Settings.{Settings}
use Rattle.template.specs.declared.Edition.{Edition}
use Rattle.record.specs.declared.Form.{Form}

-- "a settings byte (1 colour, 2 straight, others zero)": its known bits; 4, 8 and 16 are known, too (document 02, E5, E7 and E14). "an unknown settings bit .. is 15"
unfoldable pub is_known : ℕ → Bool
is_known b = ltb b 32

-- "a width rule, chosen by settings bit 16"; "The crate's rule stays the default"
unfoldable pub rule_of : ℕ → Rule
rule_of b = elim (eqb (b / 16 % 2) 1) [ true ↦ Rule.Places | false ↦ Rule.Characters ]

-- how lines are coloured, 1 and 2, and by which rule they are padded
unfoldable pub settings_of : ℕ → Settings
settings_of b = record { colour = eqb (b % 2) 1; straight = eqb (b / 2 % 2) 1; rule = rule_of b }

-- "a second edition of the template rules, chosen by settings bit 4"
unfoldable pub edition_of : ℕ → Edition
edition_of b = elim (eqb (b / 4 % 2) 1) [ true ↦ Edition.Strict | false ↦ Edition.First ]

-- "Old sheets are told apart by settings bit 8": the form of a record, in a sheet and in a line call
unfoldable pub form_of : ℕ → Form
form_of b = elim (eqb (b / 8 % 2) 1) [ true ↦ Form.New | false ↦ Form.Old ]
