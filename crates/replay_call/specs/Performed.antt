-- A call of the program as a call of crate `histories`, with a table, which open brings and the other calls take, and the set that it
-- leaves. Definitions only.
use Rattle.std.specs.Prelude.{List, Float, take}
use Rattle.arithmetic.specs.Arith.{ieee}
use Rattle.set.specs.Set.{Set}
use Rattle.histories.specs.Lists.{opens, forwards, inverses, places, unplaces, lists, regions, steps, shows, asks}
use Rattle.histories.specs.Lists as histories
use Rattle.replay_call.specs.Made.{block_of, nearby}
use Rattle.replay_call.specs.Left.{leaves}
use Rattle.replay_call.specs.declared.Call.{Call}
use Rattle.replay_call.specs.declared.Call.TheVariants as call

abbrev pub call_of : List Float → Call → histories.Call
call_of table call.Open = opens table
call_of table (call.Forward p o) = forwards p o
call_of table (call.Inverse f o) = inverses f o
call_of table (call.Place p) = places p
call_of table (call.Unplace f o) = unplaces f o
call_of table (call.List q) = lists (take q.count (nearby ieee 400 q.start q.stride)) q.room
call_of table (call.Region q) = regions (take q.count (nearby ieee 300 q.start q.stride)) q.room
call_of table (call.Step r) = steps (block_of r)
call_of table (call.Show kind k) = shows kind k
call_of table (call.Ask kind k) = asks kind k

abbrev pub performed : List Float → Set → Call → Set
performed table s k = leaves table s (call_of table k)
