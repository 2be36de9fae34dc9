-- `outcomes::refusing::write_refusal` meets its contract. Assumes nothing.
use Rattle.std.proofs.Common.{◌≡◌, refl, ◌∙◌, arith}
use Rattle.buffer.specs.Bytes.{bytes}
use Rattle.fields.specs.Texts.{decimal_text}
use Rattle.refusals.specs.Numbers.{number}
use Rattle.measure.proofs.Taking.{owes_all, first_fits, owes_rest}
use Rattle.outcomes.proofs.Refusals.{refusal_parts}
use Rattle.outcomes.proofs.refusing.write_refusal.Goals as goal

pub take-marked-requires : goal.take-marked-requires
take-marked-requires g c =
    first_fits g.S.Sink.laws (owes_all g.S.Sink.laws _ _ _ c.requires.fits) (bytes "! ") _ (refusal_parts c.args.r (number c.args.r) refl)

pub write_number-numbered-requires : goal.write_number-numbered-requires
write_number-numbered-requires g c =
    let n : c.from.result ≡ number c.args.r = c.from.ensures ∙ c.number_of.ensures.0 in
    let o = owes_rest g.S.Sink.laws (owes_all g.S.Sink.laws _ _ _ c.requires.fits) (bytes "! ") _ (refusal_parts c.args.r c.from.result n) _ _ c.take-marked.ensures.value c.take-marked.ensures.buffer in
    record {
      n_bound = omega (arith, c.from.ensures, c.number_of.ensures.1);
      fits = first_fits g.S.Sink.laws o (decimal_text c.from.result) (bytes "\n") refl;
    }

pub take-requires : goal.take-requires
take-requires g c =
    let n : c.from.result ≡ number c.args.r = c.from.ensures ∙ c.number_of.ensures.0 in
    let o = owes_rest g.S.Sink.laws (owes_all g.S.Sink.laws _ _ _ c.requires.fits) (bytes "! ") _ (refusal_parts c.args.r c.from.result n) _ _ c.take-marked.ensures.value c.take-marked.ensures.buffer in
    (owes_rest g.S.Sink.laws o (decimal_text c.from.result) (bytes "\n") refl _ _ c.write_number-numbered.ensures.value c.write_number-numbered.ensures.buffer).fit

pub returns : goal.returns
returns g c =
    let n : c.from.result ≡ number c.args.r = c.from.ensures ∙ c.number_of.ensures.0 in
    let o = owes_rest g.S.Sink.laws (owes_all g.S.Sink.laws _ _ _ c.requires.fits) (bytes "! ") _ (refusal_parts c.args.r c.from.result n) _ _ c.take-marked.ensures.value c.take-marked.ensures.buffer in
    let p = owes_rest g.S.Sink.laws o (decimal_text c.from.result) (bytes "\n") refl _ _ c.write_number-numbered.ensures.value c.write_number-numbered.ensures.buffer in
    record { value = c.take.ensures.value ∙ p.value; buffer = c.take.ensures.buffer ∙ p.buffer }
