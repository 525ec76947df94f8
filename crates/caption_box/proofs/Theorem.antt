-- What holds after every list of points (`every_list : EveryList`, in Paper 3's words): a new box holds no point, so the box after a list holds those of the
-- list that were taken in (Grows), and so does that of any rearrangement (Order). Assumes nothing.
use mathlib.Core.Path.{◌≡◌, sym, ◌∙◌}
use mathlib.Core.Bool.{true, false, true≢false}
use mathlib.Core.Logic.{inr, ⊎_elim}
use mathlib.Core.List.{List, Memᴰ}
use Rattle.coordinates.specs.declared.coords.Face.{Face}
use Rattle.caption_box.specs.declared.CaptionBox.{CaptionBox}
use Rattle.caption_box.specs.Sides.{new_box}
use Rattle.caption_box.specs.EveryList.{box_of, grown_all, TakenIn, FourSides, EveryList}
use Rattle.caption_box.proofs.Grows.{Holds, none, some, told, new_holds, taken_holds, grown_holds}
use Rattle.caption_box.proofs.Order.{same_sides}

pub holds : (ps : List Face) → Holds (TakenIn ps) (box_of ps)
holds ps = told (λ q. ⊎_elim absurd (λ t. t)) (λ q. inr) (taken_holds (λ q. ⊥) new_box ps new_holds)

-- without the limit: Paper 4's box round all points of a list
pub outline_holds : (ps : List Face) → Holds (λ p. Memᴰ p ps) (grown_all new_box ps)
outline_holds ps = told (λ q. ⊎_elim absurd (λ m. m)) (λ q. inr) (grown_holds (λ q. ⊥) new_box ps new_holds)

module _ {In : Face → Type 0} {b : CaptionBox} where
  pub empty_none : Holds In b → b.empty ≡ true → (p : Face) → In p → ⊥
  empty_none (none e n) o = n
  empty_none (some e s) o = absurd (true≢false (sym o ∙ e))

  pub none_empty : Holds In b → ((p : Face) → In p → ⊥) → b.empty ≡ true
  none_empty (none e n) f = e
  none_empty (some e s) f = absurd (f s.least_x.point s.least_x.taken_in)

  pub filled_sides : Holds In b → b.empty ≡ false → FourSides In b
  filled_sides (none e n) o = absurd (true≢false (sym e ∙ o))
  filled_sides (some e s) o = s

pub every_list : EveryList
every_list =
    record {
      empty_holds_none = λ ps. empty_none (holds ps);
      none_leaves_empty = λ ps. none_empty (holds ps);
      sides = λ ps. filled_sides (holds ps);
      any_order = λ ps qs perm. same_sides ps qs perm (box_of ps) (box_of qs) (holds ps) (holds qs);
    }
