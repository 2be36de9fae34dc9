-- Demand 3 holds of line calls. Assumes nothing.
use Prim.Native.Nat.{ℕ, ◌/◌, ◌%◌}
use mathlib.Core.Path.{◌≡◌, refl, ap, sym, subst, ◌∙◌}
use mathlib.Core.List.{List}
use mathlib.Core.Bool.{true, false}
use native.Mathlib.Omega.{arith}
use lib.Dec.{eqb}
use borrow.Author.Tests.{eq-eqb, ne_eqb}
use lib.ListN.{take}
use Rattle.widths.specs.declared.Rule.{Rule}
use Rattle.colour.specs.declared.Settings.{Settings}
use Rattle.colour.specs.Modes.{off_by, plain, straight, coloured}
use Rattle.colour.specs.Sequences.{visible}
use Rattle.colour.specs.Texts.{Eachs}
use Rattle.segments.specs.Segments.{LogSegments}
use Rattle.letters.specs.Marked.{marked}
use Rattle.unused.specs.Unused.{first_of, unused_in}
use Rattle.template.specs.declared.Edition.{Edition}
use Rattle.template.specs.Template.{read, read_template, read_by}
use Rattle.template.proofs.Refusing.{used_read}
use Rattle.record.specs.declared.Form.{Form}
use Rattle.record.specs.Layout.{laid_out}
use Rattle.record.specs.Records.{Record}
use Rattle.record.specs.Contents.{record_of}
use Rattle.fields.specs.Lines.{line_of}
use Rattle.settings.specs.Bits.{rule_of, settings_of, edition_of, form_of}
use Rattle.demands.specs.Demand3.{Fills, FallsShort}
use Rattle.demands.specs.Lines.{FreeSegments, FreeRecord}
use Rattle.demands.specs.CallDemand3.{Colourless, Straight, Coloured, Answered, shown_by, MadeOf, CallDemand3}
use Rattle.demands.proofs.Defined.{call_demand2}
use Rattle.demands.proofs.OfLines.{line_demand3}
use Rattle.demands.proofs.VisibleText.{visible_demand}

-- the three modes by their settings bytes, in either edition and either form, by either rule
bit_on : (n : ℕ) → n ≡ 1 → eqb n 1 ≡ true
bit_on n e = eq-eqb n 1 e

bit_off : (n : ℕ) → n ≡ 0 → eqb n 1 ≡ false
bit_off n e = ne_eqb n 1 (λ h. omega (arith, e, h))

module _ (form : Form) (rule : Rule) (settings : ℕ) where
  straight_is : Straight form rule settings → (s : Settings) → s.rule ≡ rule → settings_of settings ≡ straight s
  unfolding settings_of
  straight_is h s e = rw (bit_on (settings % 2) (omega (arith, h.0)), bit_on (settings / 2 % 2) (omega (arith, h.0)), h.1.1 ∙ sym e)

  coloured_is : Coloured form rule settings → (s : Settings) → s.rule ≡ rule → settings_of settings ≡ coloured s
  unfolding settings_of
  coloured_is h s e = rw (bit_on (settings % 2) (omega (arith, h.0)), bit_off (settings / 2 % 2) (omega (arith, h.0)), h.1.1 ∙ sym e)

  plain_is : Colourless form rule settings → settings_of settings ≡ plain (settings_of settings)
  unfolding settings_of
  plain_is h = rw (bit_off (settings % 2) h.0)

  rule_is : Colourless form rule settings → (settings_of settings).rule ≡ rule
  unfolding settings_of
  rule_is h = h.1.1

-- what an edition reads, the first reads alike
read_first : (edition : Edition) (t : List ℕ) (s : LogSegments) → read_by edition t ≡ read s → read_template t ≡ read s
unfolding read_by
read_first Edition.First t s e = e
read_first Edition.Strict t s e = (used_read (first_of (unused_in (marked t))) (read_template t) s e).0

module _ (form : Form) (rule : Rule) (t : List ℕ) (s : LogSegments) (d : List ℕ) where
  abbrev r : Record
  r = record_of (laid_out form d)

  -- the line that was answered
  answered : read_template t ≡ read s → (settings : ℕ) → form_of settings ≡ form → (lent left : List ℕ) (answer : ℕ) → Answered t settings d lent left answer
      → take (answer / 256) left ≡ line_of (settings_of settings) t s r
  answered e settings q lent left answer a =
      let c = (call_demand2 t settings d lent).only left answer a.0 a.1 in
      let f = read_first (edition_of settings) t c.0 c.1.template in
      let same : c.0 ≡ s = cc in
      c.2.front ∙ (λ k. line_of (settings_of settings) t (same k) (record_of (laid_out (q k) d)))

  -- in a mode of which P holds of each
  made_of : (P : Settings → _ → List ℕ → Type 0) → read_template t ≡ read s → (settings : ℕ) → form_of settings ≡ form → (mode : Settings) → settings_of settings ≡ mode
      → Eachs (P mode) mode (shown_by form t s d)
      → (lent left : List ℕ) (answer : ℕ) → Answered t settings d lent left answer → MadeOf P settings (shown_by form t s d) (take (answer / 256) left)
  unfolding line_of
  made_of P e settings q mode m h lent left answer a = record {
    made = answered e settings q lent left answer a;
    each = subst (λ (x : Settings). Eachs (P x) x (shown_by form t s d)) (sym m) h;
  }

  -- what is visible of a straight line is the plain line
  same : read_template t ≡ read s → FreeSegments t s → FreeRecord r → (set₁ set₂ : ℕ) → Straight form rule set₁ → Colourless form rule set₂
      → (lent₁ lent₂ left₁ left₂ : List ℕ) (answer₁ answer₂ : ℕ) → Answered t set₁ d lent₁ left₁ answer₁ → Answered t set₂ d lent₂ left₂ answer₂
      → visible (take (answer₁ / 256) left₁) ≡ take (answer₂ / 256) left₂
  same e f g set₁ set₂ q p lent₁ lent₂ left₁ left₂ answer₁ answer₂ a b =
      let x = settings_of set₂ in
      ap visible (answered e set₁ q.1.0 lent₁ left₁ answer₁ a ∙ ap (λ (y : Settings). line_of y t s r) (straight_is form rule set₁ q x (rule_is form rule set₂ p)))
      ∙ (line_demand3 x t s r).same f g
      ∙ ap (λ (y : Settings). line_of y t s r) (sym (plain_is form rule set₂ p))
      ∙ sym (answered e set₂ p.1.0 lent₂ left₂ answer₂ b)

  pub call_demand3 : CallDemand3 form rule t s d
  call_demand3 = record {
    same = same;
    shown_plain = λ e f g set₁ set₂ q p lent₁ lent₂ lent₃ left₁ left₂ left₃ answer₁ answer₂ answer₃ a b m k.
        ((visible_demand (take (answer₁ / 256) left₁) lent₃).shown left₃ answer₃ m k).front
        ∙ same e f g set₁ set₂ q p lent₁ lent₂ left₁ left₂ answer₁ answer₂ a b;
    fills_straight = λ e settings q.
        let x = off_by rule in made_of Fills e settings q.1.0 (straight x) (straight_is form rule settings q x refl) (line_demand3 x t s r).fills_straight;
    fills_plain = λ e settings p.
        let x = settings_of settings in made_of Fills e settings p.1.0 (plain x) (plain_is form rule settings p) (line_demand3 x t s r).fills_plain;
    falls_short = λ e settings q.
        let x = off_by rule in made_of FallsShort e settings q.1.0 (coloured x) (coloured_is form rule settings q x refl) (line_demand3 x t s r).falls_short;
  }
