-- Body 0: its settings byte, and the template after that. Assumes nothing.
use mathlib.Core.Path.{◌≡◌, refl, ap, sym, ◌∙◌}
use mathlib.Core.Bool.{true, false, ◌&&◌}
use mathlib.Core.List.{List, [], ◌∷◌}
use Prim.Native.Nat.{ℕ, suc, ◌+◌, ◌≤◌, ◌<◌}
use native.Mathlib.Omega.{arith}
use lib.ListN.{length, get_or}
use Rattle.buffer.specs.Bytes.{part}
use Rattle.buffer.proofs.Parts.{part_step, part_length}
use Rattle.record.specs.declared.Form.{Form}
use Rattle.record.specs.Layout.{u32}
use Rattle.settings.specs.Bits.{is_known, form_of}
use Rattle.sheet.specs.Sheets.{body_count, contents_end, bodies_from, bodies, is_head, form_in, are_records, are_bodies, is_sheet, all_laid_out, headed, held}
use Rattle.sheet.proofs.Standing.{both_true, stands}
use Rattle.sheet.proofs.Walk.{Left, all_left, bodies_next, next_fits, next_left}

false_true : false ≡ true → ⊥
false_true e = let z : ◌≡◌ {A = ℕ} 0 1 = cc in omega (arith, z)

-- ---- a body that can be body 0

pub no_byte : (b : List ℕ) → length b ≡ 0 → is_head b ≡ false
unfolding is_head
no_byte [] e = refl
no_byte (x ∷ b) e = absurd (omega (arith, e))

pub first_byte : (b : List ℕ) → 0 < length b → is_head b ≡ is_known (get_or b 0 0)
unfolding is_head
first_byte [] h = absurd (omega (arith, h))
first_byte (x ∷ b) h = refl

pub is_head_lem : (b : List ℕ) → is_head b ≡ true → (0 < length b) × (is_known (get_or b 0 0) ≡ true)
unfolding is_head
is_head_lem [] e = absurd (false_true e)
is_head_lem (x ∷ b) e = (omega arith, e)

-- of a body at place j, k bytes long
module _ (d : List ℕ) (j k : ℕ) (fits : j + k ≤ length d) where
  pub has_byte : is_head (part j (j + k) d) ≡ true → 0 < k
  has_byte e = omega (arith, (is_head_lem (part j (j + k) d) e).0, part_length d j (j + k) (omega arith) fits)

  first_of : 0 < k → part j (j + k) d ≡ get_or d j 0 ∷ part (j + 1) (j + k) d
  first_of h = part_step d j (j + k) (omega (arith, h)) fits

  -- what its first byte says of the records
  pub head_form : 0 < k → form_in (part j (j + k) d) ≡ form_of (get_or d j 0)
  unfolding form_in
  head_form h = ap form_in (first_of h)

  head_byte : 0 < k → get_or (part j (j + k) d) 0 0 ≡ get_or d j 0
  head_byte h = ap (λ (x : List ℕ). get_or x 0 0) (first_of h)

-- the settings are its first byte, the template is the rest
pub headed_body : (d : List ℕ) (j e : ℕ) (records : List (List ℕ)) → j < e → e ≤ length d
    → headed (part j e d) records ≡ record { settings = get_or d j 0; template = part (j + 1) e d; records = all_laid_out (form_of (get_or d j 0)) records }
unfolding headed
headed_body d j e records h g = ap (λ (b : List ℕ). headed b records) (part_step d j e h g)

-- ---- body 0 of a sheet

-- whether the bodies are body 0 and records
pub bodies_split : (d : List ℕ) (n : ℕ) → body_count d ≡ suc n
    → are_bodies (bodies d) ≡ (is_head (part (contents_end d) (contents_end d + u32 d 2) d) && are_records (form_in (part (contents_end d) (contents_end d + u32 d 2) d)) (bodies_from n d 6 (contents_end d + u32 d 2)))
unfolding are_bodies bodies
bodies_split d n e = ap are_bodies (bodies_next (body_count d) n d 2 (contents_end d) e)

-- what a sheet with n records has
pub record Head (d : List ℕ) (n : ℕ) : Type 0 where
  pub room : (6 ≤ length d) × (contents_end d + u32 d 2 ≤ length d)
  pub byte : 0 < u32 d 2
  pub settings : is_known (get_or d (contents_end d) 0) ≡ true
  pub left : Left n d 6 (contents_end d + u32 d 2)
  pub records : are_records (form_of (get_or d (contents_end d) 0)) (bodies_from n d 6 (contents_end d + u32 d 2)) ≡ true

module _ (d : List ℕ) (n : ℕ) (one_more : body_count d ≡ suc n) (sheet : is_sheet d ≡ true) where
  pub head_of : Head d n
  head_of =
      let j = contents_end d in
      let f = next_fits (body_count d) n d 2 j one_more (all_left d sheet) in
      let k = u32 d 2 in
      let body = part j (j + k) d in
      let records = bodies_from n d 6 (j + k) in
      let t = both_true (is_head body) (are_records (form_in body) records) (sym (bodies_split d n one_more) ∙ (stands d sheet).right) in
      let b = has_byte d j k f.1 t.0 in
      record {
        room = f;
        byte = b;
        settings = ap is_known (sym (head_byte d j k f.1 b)) ∙ (is_head_lem body t.0).1;
        left = next_left (body_count d) n d 2 j one_more (all_left d sheet);
        records = ap (λ (form : Form). are_records form records) (sym (head_form d j k f.1 b)) ∙ t.1;
      }

  pub sheet_held : held (bodies d) ≡ record {
    settings = get_or d (contents_end d) 0;
    template = part (contents_end d + 1) (contents_end d + u32 d 2) d;
    records = all_laid_out (form_of (get_or d (contents_end d) 0)) (bodies_from n d 6 (contents_end d + u32 d 2));
  }
  unfolding held bodies
  sheet_held =
      let j = contents_end d in
      let h = head_of in
      ap held (bodies_next (body_count d) n d 2 j one_more)
      ∙ headed_body d j (j + u32 d 2) (bodies_from n d 6 (j + u32 d 2)) (omega (arith, h.byte)) h.room.1
