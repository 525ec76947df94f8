-- No line is longer than the room for one, nor those of records one after the other than the room for as many. Assumes nothing.
use mathlib.Core.List.{List}
use Prim.Native.Nat.{ℕ, zero, suc, ◌*◌, ◌≤◌}
use native.Mathlib.Omega.{arith}
use lib.Ieee.{Float, binary64, to_bits}
use lib.ListN.{length, length-append}
use Rattle.answer.specs.Given.{Given, answered, refused}
use Rattle.arithmetic.specs.Arith.{Arith}
use Rattle.coordinates.specs.declared.lonlat.LonLat.{LonLat}
use Rattle.set.specs.Set.{Set}
use Rattle.dodecahedron.specs.Calls.{place_on, unplace_on}
use Rattle.dodecahedron.specs.declared.place.Place as place
use Rattle.strike_records.specs.Line.{LINE, place_line, lon_lat_line, refusal_line}
use Rattle.strike_records.specs.Record.{request_in}
use Rattle.strike_records.specs.Reply.{line_of, Reply, reply_to, reply, record_at, replies}
use Rattle.strike_records.specs.declared.record.Request.{Request}
use Rattle.strike_records.specs.declared.record.Request.TheVariants.{Place, Unplace}
use Rattle.strike_records.proofs.Written.{length_hex, length_decimal}

pub place_fits : (p : place.Place) → length (place_line p) ≤ LINE
unfolding place_line
place_fits p =
    let x = length_hex 16 (to_bits binary64 p.face.0.x) in
    let y = length_hex 16 (to_bits binary64 p.face.0.y) in
    simp length-append (omega (arith, length_decimal p.origin, x, y))

pub lon_lat_fits : (l : LonLat) → length (lon_lat_line l) ≤ LINE
unfolding lon_lat_line
lon_lat_fits l =
    let longitude = length_hex 16 (to_bits binary64 l.longitude.0) in
    let latitude = length_hex 16 (to_bits binary64 l.latitude.0) in
    simp length-append (omega (arith, longitude, latitude))

pub refusal_fits : (n : ℕ) → length (refusal_line n) ≤ LINE
unfolding refusal_line
refusal_fits n = simp length-append (omega (arith, length_decimal n))

-- ---- the same of answers, and of records one after the other

line_fits : {X : Type 0} (f : X → List ℕ) → ((x : X) → length (f x) ≤ LINE) → (g : Given X) → length (line_of f g) ≤ LINE
line_fits f h (answered x) = h x
line_fits f h (refused n) = refusal_fits n

module _ (A : Arith) (table : List Float) (s : Set) where
  reply_to_fits : (r : Given Request) → length (reply_to A table s r).lines ≤ LINE
  reply_to_fits (refused n) = refusal_fits n
  reply_to_fits (answered (Place p)) = line_fits place_line place_fits (place_on A table s p).answer
  reply_to_fits (answered (Unplace f o)) = line_fits lon_lat_line lon_lat_fits (unplace_on A table s f o).answer

  reply_fits : (r : List ℕ) → length (reply A table s r).lines ≤ LINE
  unfolding reply
  reply_fits r = reply_to_fits (request_in A r)

module _ (A : Arith) (table : List Float) (s : Set) (bytes : List ℕ) where
  abbrev first : ℕ → Reply
  first = replies A table s bytes

  pub lines_fit : (k : ℕ) → length (first k).lines ≤ k * LINE
  unfolding replies
  lines_fit zero = omega arith
  lines_fit (suc k) =
      let line = (reply A table (first k).set (record_at bytes k)).lines in
      omega (arith, length-append (first k).lines line, lines_fit k, reply_fits A table (first k).set (record_at bytes k))
