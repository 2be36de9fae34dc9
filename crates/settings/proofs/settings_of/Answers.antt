-- `settings::settings_of` meets its contract: the bits by division. Assumes nothing.
use Rattle.record.proofs.Bits.{bit_test, bit_test_lowest}
use Rattle.settings.specs.Bits.{settings_of}
use Rattle.settings.proofs.settings_of.Goals as goal

pub returns : goal.returns
unfolding settings_of
returns c =
    λ i. record {
      colour = bit_test_lowest c.args.b i;
      straight = bit_test c.args.b 1 i;
      rule = c.rule_of.ensures i;
    }
