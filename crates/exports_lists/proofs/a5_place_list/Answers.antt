-- `a5_place_list` meets its contract: the call's number, and the results and the set that it leaves. Assumes nothing.
use Rattle.std.proofs.Common.{◌≡◌, ℕ, List, rules}
use Rattle.set.specs.Set.{Set}
use Rattle.place_list.specs.declared.PlaceResult.{PlaceResult}
use Rattle.exports_lists.specs.Lists.{Returned, returned}
use Rattle.exports_lists.proofs.a5_place_list.Goals as goal

-- the set by another name
handed_back : {n : ℕ} {rs : List PlaceResult} {s t : Set} {o : Returned} → returned n rs s ≡ o → t ≡ s → returned n rs t ≡ o
handed_back e same = rw same e

pub returns : goal.returns
returns c = handed_back c.listed.ensures.listed (search rules)
