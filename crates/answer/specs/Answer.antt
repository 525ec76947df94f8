-- The number of each refusal (document 01, "Calls and their numbers", and document 02), and what a check gives. Definitions only.
use Rattle.std.specs.Prelude.{ℕ, Result, Ok, Err}
use Rattle.answer.specs.Given.{Given, answered, refused}
use Rattle.answer.specs.declared.Refusal.{Refusal}
use Rattle.answer.specs.declared.Refusal.TheVariants as refusal

-- document 01's table, row by row
abbrev pub number_of : Refusal → ℕ
-- "frame isn't 186 long"
number_of refusal.FrameLength = 1
-- "face store isn't 210 long"
number_of refusal.FaceStoreLength = 2
-- the sphere store; Paper 6: "The store is 3,120 numbers, and refusal 3 is for every other length."
number_of refusal.SphereStoreLength = 3
-- "origin id above 11"
number_of refusal.UnknownOrigin = 4
-- "a number is infinite or NaN"
number_of refusal.NotFinite = 5
-- "a number is outside its range"
number_of refusal.OutOfRange = 6
-- "open's frame hasn't 62 rows"
number_of refusal.FrameRows = 7
-- "a triangle that must be built has no frame vertex"
number_of refusal.NoVertex = 8
-- "the answer would have a number that isn't finite"
number_of refusal.AnswerNotFinite = 9
-- "show: slot 30 or more (face), 240 or more (sphere)"
number_of refusal.UnknownSlot = 10
-- "program: header missing, wrong or short"
number_of refusal.Header = 11
-- "program: kind not 1 or 2, or kind 1 with non-zero origin byte"
number_of refusal.RecordKind = 12
-- "program: input ends inside a record"
number_of refusal.CutOff = 13
-- document 02's, by their papers. Paper 1: "the two slices differ in length"
number_of refusal.ResultCount = 14
-- Paper 4: "no positions or more than 256"
number_of refusal.PositionCount = 15
-- Paper 4: "two positions have different nearest origins"
number_of refusal.OriginsDiffer = 16
-- Paper 5: "the minute is earlier than the last accepted one"
number_of refusal.EarlierMinute = 17
-- Paper 5: "4,096 strikes remain after the drop"
number_of refusal.WindowFull = 18
-- Paper 7: "no corner is returned and that angle is finite and beyond ±64", the angle from the area share in inverse and unplace
number_of refusal.AngleOutside = 19
-- Paper 10: "wrong length, mark or version"
number_of refusal.TableFile = 20
-- Paper 10: "a number not finite or outside its range"
number_of refusal.TableNumber = 21
-- Paper 10: "a quaternion off unit length"
number_of refusal.TableQuaternion = 22
-- Paper 11: "the register block isn't 32 bytes"
number_of refusal.BlockLength = 23
-- Paper 12: "not exactly 16 wishes"
number_of refusal.WishCount = 24
-- Paper 12: "not exactly 16 grant places"
number_of refusal.GrantCount = 25
-- Paper 13: "the lent page isn't 4,860 bytes"
number_of refusal.PageLength = 26

-- what a function returned: its value, or the number of its refusal
abbrev pub given : {A : Type 0} → Result A Refusal → Given A
given (Ok a) = answered a
given (Err r) = refused (number_of r)
