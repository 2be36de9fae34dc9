-- What each first byte begins: a law for each line of table 3-7, and for the bytes that begin nothing. Assumes nothing.
use mathlib.Core.Path.{◌≡◌, refl, ◌∙◌}
use mathlib.Core.List.{List, [], ◌∷◌}
use Prim.Native.Nat.{ℕ, ◌<◌, ◌≤◌}
use native.Mathlib.Omega.{arith}
use lib.ListN.{drop}
use Rattle.utf8.specs.Utf8.{Range, ◌to◌, trail, forms, awaited, broken, begun}
use Rattle.utf8.proofs.Ranges.{within_in, within_below, within_above}

module _ (b l h : ℕ) (more : List Range) (rest : List (List Range)) where
  -- the byte begins the form at hand
  here : l ≤ b → b ≤ h → begun ((l to h ∷ more) ∷ rest) b ≡ awaited more
  unfolding begun
  here f g = rw (within_in l h b f g, begun)

  -- the byte lies past what begins the form at hand
  past : h < b → begun ((l to h ∷ more) ∷ rest) b ≡ begun rest b
  unfolding begun
  past f = rw (within_above l h b f, begun)

  -- the byte lies before it
  short : b < l → begun ((l to h ∷ more) ∷ rest) b ≡ begun rest b
  unfolding begun
  short f = rw (within_below l h b f, begun)

module _ (b : ℕ) where
  none : begun [] b ≡ broken
  unfolding begun
  none = refl

  pub leads_ascii : b ≤ 0x7F → begun forms b ≡ awaited []
  leads_ascii h = here b _ _ _ _ (omega arith) (omega arith)

  past_1 : 0x7F < b → begun forms b ≡ begun (drop 1 forms) b
  past_1 h = past b _ _ _ _ h

  pub leads_two : 0xC2 ≤ b → b ≤ 0xDF → begun forms b ≡ awaited (trail ∷ [])
  leads_two g h = past_1 (omega arith) ∙ here b _ _ _ _ (omega arith) (omega arith)

  past_2 : 0xDF < b → begun forms b ≡ begun (drop 2 forms) b
  past_2 h = past_1 (omega arith) ∙ past b _ _ _ _ h

  pub leads_e0 : b ≡ 0xE0 → begun forms b ≡ awaited (0xA0 to 0xBF ∷ trail ∷ [])
  leads_e0 e = past_2 (omega arith) ∙ here b _ _ _ _ (omega arith) (omega arith)

  past_3 : 0xE0 < b → begun forms b ≡ begun (drop 3 forms) b
  past_3 h = past_2 (omega arith) ∙ past b _ _ _ _ h

  pub leads_three : 0xE1 ≤ b → b ≤ 0xEC → begun forms b ≡ awaited (trail ∷ trail ∷ [])
  leads_three g h = past_3 (omega arith) ∙ here b _ _ _ _ (omega arith) (omega arith)

  past_4 : 0xEC < b → begun forms b ≡ begun (drop 4 forms) b
  past_4 h = past_3 (omega arith) ∙ past b _ _ _ _ h

  pub leads_ed : b ≡ 0xED → begun forms b ≡ awaited (0x80 to 0x9F ∷ trail ∷ [])
  leads_ed e = past_4 (omega arith) ∙ here b _ _ _ _ (omega arith) (omega arith)

  past_5 : 0xED < b → begun forms b ≡ begun (drop 5 forms) b
  past_5 h = past_4 (omega arith) ∙ past b _ _ _ _ h

  pub leads_three_more : 0xEE ≤ b → b ≤ 0xEF → begun forms b ≡ awaited (trail ∷ trail ∷ [])
  leads_three_more g h = past_5 (omega arith) ∙ here b _ _ _ _ (omega arith) (omega arith)

  past_6 : 0xEF < b → begun forms b ≡ begun (drop 6 forms) b
  past_6 h = past_5 (omega arith) ∙ past b _ _ _ _ h

  pub leads_f0 : b ≡ 0xF0 → begun forms b ≡ awaited (0x90 to 0xBF ∷ trail ∷ trail ∷ [])
  leads_f0 e = past_6 (omega arith) ∙ here b _ _ _ _ (omega arith) (omega arith)

  past_7 : 0xF0 < b → begun forms b ≡ begun (drop 7 forms) b
  past_7 h = past_6 (omega arith) ∙ past b _ _ _ _ h

  pub leads_four : 0xF1 ≤ b → b ≤ 0xF3 → begun forms b ≡ awaited (trail ∷ trail ∷ trail ∷ [])
  leads_four g h = past_7 (omega arith) ∙ here b _ _ _ _ (omega arith) (omega arith)

  past_8 : 0xF3 < b → begun forms b ≡ begun (drop 8 forms) b
  past_8 h = past_7 (omega arith) ∙ past b _ _ _ _ h

  pub leads_f4 : b ≡ 0xF4 → begun forms b ≡ awaited (0x80 to 0x8F ∷ trail ∷ trail ∷ [])
  leads_f4 e = past_8 (omega arith) ∙ here b _ _ _ _ (omega arith) (omega arith)

  past_9 : 0xF4 < b → begun forms b ≡ begun (drop 9 forms) b
  past_9 h = past_8 (omega arith) ∙ past b _ _ _ _ h

  -- a trailing byte, and a byte that could only begin an overlong form
  pub leads_none_below : 0x80 ≤ b → b < 0xC2 → begun forms b ≡ broken
  leads_none_below g h =
      past_1 (omega arith)
      ∙ short b _ _ _ _ (omega arith)
      ∙ short b _ _ _ _ (omega arith)
      ∙ short b _ _ _ _ (omega arith)
      ∙ short b _ _ _ _ (omega arith)
      ∙ short b _ _ _ _ (omega arith)
      ∙ short b _ _ _ _ (omega arith)
      ∙ short b _ _ _ _ (omega arith)
      ∙ short b _ _ _ _ (omega arith)
      ∙ none

  -- a byte that could only begin what lies above 10FFFF
  pub leads_none_above : 0xF4 < b → begun forms b ≡ broken
  leads_none_above g = past_9 g ∙ none
