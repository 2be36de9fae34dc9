-- A segment stored. Assumes nothing.
use Prim.Native.Nat.{ℕ, ◌≤◌, ◌<◌}
use mathlib.Core.Path.{◌≡◌, ap, ◌∙◌}
use mathlib.Core.List.{List}
use lib.ListN.{length, take, set}
use lib.Seq.{get_or-set_same}
use Rattle.std.proofs.lemmas.List.{take-set}
use Rattle.words.specs.declared.LogMetadata.{LogMetadata}
use Rattle.words.specs.declared.LogFormat.{LogFormat}
use Rattle.segments.specs.declared.Kind.{Kind}
use Rattle.segments.specs.declared.Cell.{Cell}
use Rattle.segments.specs.Segments.{text, specifier, group}
use Rattle.segments.specs.Pool.{no_cell, cell, kind_at, format_at, link_below, back, last_link, last_member, chain_at, Adds}
use Rattle.segments.proofs.Chains.{link_kept, segment_text_lem, segment_specifier, segment_group}
use Rattle.segments.proofs.Fronts.{chain_front}

-- the pool p became q when segment n was stored
module _ (p q : List Cell) (n link : ℕ) (f : LogFormat) (k : Kind) (e : q ≡ set p n (record { kind = k; format = f; link = link })) (h : n < length p) (u : link ≤ n) where
  front : take n q ≡ take n p
  front = ap (take n) e ∙ take-set p n _

  stored : cell q n ≡ record { kind = k; format = f; link = link }
  unfolding cell
  stored = ap (λ (l : List Cell). cell l n) e ∙ get_or-set_same p n (record { kind = k; format = f; link = link }) no_cell h

  kind_stored : kind_at q n ≡ k
  unfolding kind_at
  kind_stored = ap (λ (c : Cell). c.kind) stored

  format_stored : format_at q n ≡ f
  unfolding format_at
  format_stored = ap (λ (c : Cell). c.format) stored

  linked : back q n ≡ link
  unfolding back
  linked = ap (λ (c : Cell). link_below n c.link) stored ∙ link_kept n link u

  pub added_text : (from to : ℕ) → k ≡ Kind.Text from to → Adds p q n link (text from to)
  added_text from to w = record {
    front = front;
    made = segment_text_lem q n (kind_stored ∙ w);
    linked = linked;
  }

  pub added_specifier : (m : LogMetadata) → k ≡ Kind.Specifier m → Adds p q n link (specifier m f)
  added_specifier m w = record {
    front = front;
    made = segment_specifier q n m (kind_stored ∙ w) ∙ ap (specifier m) format_stored;
    linked = linked;
  }

  module _ (last : ℕ) (w : k ≡ Kind.Group last) (g : last ≤ n) where
    pub added_last : last_member q n ≡ last
    unfolding last_member
    added_last = ap (λ (x : Kind). link_below n (last_link x)) (kind_stored ∙ w) ∙ link_kept n last g

    pub added_group : Adds p q n link (group (chain_at p last) f)
    added_group =
        let s : chain_at q (last_member q n) ≡ chain_at p last = ap (chain_at q) added_last ∙ chain_front q p n front last g in
        record {
          front = front;
          made = segment_group q n (kind_stored ∙ w) ∙ (λ j. group (s j) (format_stored j));
          linked = linked;
        }
