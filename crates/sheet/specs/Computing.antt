-- Scaffolding, for proofs alone: what the definitions of this layer compute by, in one name: `unfolding computes` opens them all. Assumes nothing.
use Rattle.sheet.specs.Sheets.{body_count, contents_end, body_bytes, bodies_from, bodies, is_head, form_in, are_records, are_bodies, is_sheet, all_laid_out, headed, held, sheet_of}

unfoldable pub computes : Unit {0}
unfolding body_count contents_end body_bytes bodies_from bodies is_head form_in are_records are_bodies is_sheet all_laid_out headed held sheet_of
computes = tt
