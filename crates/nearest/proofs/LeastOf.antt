-- The search for the least, one number further: what is left, from here, gives the whole. Assumes nothing.
use mathlib.Core.Path.{◌≡◌, refl, sym, ap, ◌∙◌}
use mathlib.Core.Bool.{true, false}
use mathlib.Core.List.{List, ◌∷◌}
use Prim.Native.Nat.{ℕ, ◌+◌, ◌≤◌, ◌<◌}
use native.Mathlib.Numerals.{add-one}
use lib.ListN.{length, get_or, drop}
use lib.Seq.{drop-cons}
use Rattle.std.proofs.lemmas.List.{drop_all}
use lib.Ieee.{Float, nan, lt}
use Rattle.nearest.specs.Nearest.{least_from}

module _ (hs : List Float) (i : ℕ) (d : Float) (b : ℕ) (h : i < length hs) where
  taken : least_from i (drop i hs) d b ≡ least_from i (get_or hs i nan ∷ drop (i + 1) hs) d b
  taken = ap (λ (l : List Float). least_from i l d b) (drop-cons hs i nan h ∙ ap (λ (n : ℕ). get_or hs i nan ∷ drop n hs) (sym (add-one i)))

  pub less : lt (get_or hs i nan) d ≡ true → least_from i (drop i hs) d b ≡ least_from (i + 1) (drop (i + 1) hs) (get_or hs i nan) i
  unfolding least_from
  less e = taken ∙ rw (e, least_from) (rw (add-one i))

  pub not_less : lt (get_or hs i nan) d ≡ false → least_from i (drop i hs) d b ≡ least_from (i + 1) (drop (i + 1) hs) d b
  unfolding least_from
  not_less e = taken ∙ rw (e, least_from) (rw (add-one i))

pub at_end : (hs : List Float) (i : ℕ) (d : Float) (b : ℕ) → length hs ≤ i → least_from i (drop i hs) d b ≡ b
at_end hs i d b h = ap (λ (l : List Float). least_from i l d b) (drop_all i hs h) ∙ unfold least_from in refl
