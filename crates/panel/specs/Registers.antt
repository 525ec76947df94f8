-- Document 02, Paper 11: "The panel on the desk reaches the server through 32 bytes of registers." What stands where in the block, and
-- how a step writes it. Definitions only.
use Rattle.std.specs.Prelude.{ℕ, ◌+◌, ◌/◌, ◌%◌, Bool, cond, ◌&&◌, ◌||◌, not, List, ◌++◌, eqb, Float, length, get_or, set, take, drop}
use Rattle.answer.specs.Given.{Given, passed, refuse_if}
use Rattle.coordinates.specs.declared.lonlat.LonLat.{LonLat}
use Rattle.dodecahedron.specs.declared.place.Place.{Place}
use Rattle.answer.specs.BigEndian.{double_bytes}

abbrev pub BLOCK : ℕ
BLOCK = 32

-- ---- the registers, by their places

-- "Byte 0 is the command"
abbrev pub COMMAND : ℕ
COMMAND = 0

-- "Byte 1 is status"
abbrev pub STATUS : ℕ
STATUS = 1

-- "Byte 2 masks those bits"
abbrev pub MASK : ℕ
MASK = 2

-- "byte 3 is the interrupt line"
abbrev pub INTERRUPT : ℕ
INTERRUPT = 3

-- "Byte 4 is the origin, byte 5 the refusal number."
abbrev pub ORIGIN : ℕ
ORIGIN = 4

abbrev pub REFUSAL : ℕ
REFUSAL = 5

-- "Bytes 8 to 15 hold the two signed 32-bit inputs": where they begin
abbrev pub INPUTS : ℕ
INPUTS = 8

-- "Bytes 16 to 31 hold the two result doubles": where each begins
abbrev pub FIRST : ℕ
FIRST = 16

abbrev pub SECOND : ℕ
SECOND = 24

-- "bit 0 done, bit 1 refused": the status byte after a command "is exactly 1 or 2"
abbrev pub DONE : ℕ
DONE = 1

abbrev pub REFUSED : ℕ
REFUSED = 2

-- 23: "the register block isn't 32 bytes"
unfoldable pub check_block : List ℕ → Given (Unit {0})
check_block b = refuse_if (not (eqb (length b) BLOCK)) 23 passed

-- ---- the interrupt line

-- both numbers have bit 0
unfoldable pub shared : ℕ → ℕ → Bool
shared a b = eqb (a % 2) 1 && eqb (b % 2) 1

-- "1 if status and mask share a set bit among bits 0 and 1, else 0"
unfoldable pub interrupt : ℕ → ℕ → ℕ
interrupt status mask = cond (shared status mask || shared (status / 2) (mask / 2)) 1 0

-- "With command 0 only the interrupt byte is worked out anew."
unfoldable pub interrupt_anew : List ℕ → List ℕ
interrupt_anew b = set b INTERRUPT (interrupt (get_or b STATUS 0) (get_or b MASK 0))

-- ---- the end of a command

-- "sets byte 0 to 0"; "After a command the status byte is exactly 1 or 2 and the interrupt byte is worked out anew."
unfoldable pub ended : ℕ → List ℕ → List ℕ
ended status b = set (set (set b COMMAND 0) STATUS status) INTERRUPT (interrupt status (get_or b MASK 0))

-- a double's eight bytes, the highest first, from a place on
unfoldable pub with_double : List ℕ → ℕ → Float → List ℕ
with_double b at x = take at b ++ double_bytes x ++ drop (at + 8) b

-- done: "Done clears byte 5", and both results are written
unfoldable pub done : Float → Float → List ℕ → List ℕ
done x y b = ended DONE (with_double (with_double (set b REFUSAL 0) FIRST x) SECOND y)

-- "An answered place writes the origin byte": and the face point, x and y
unfoldable pub placed : Place → List ℕ → List ℕ
placed p b = done p.face.0.x p.face.0.y (set b ORIGIN p.origin)

-- an answered unplace: longitude and latitude, in degrees
unfoldable pub unplaced : LonLat → List ℕ → List ℕ
unplaced l b = done l.longitude.0 l.latitude.0 b

-- "A refusal leaves result and origin bytes and sets byte 5."
unfoldable pub refused_with : ℕ → List ℕ → List ℕ
refused_with n b = ended REFUSED (set b REFUSAL n)
