-- The layouts of an axis's part of a frame, and what a part carries.
use Rattle.std.specs.Prelude.{ℕ, Bool, cond, List, length, drop, ℤ, Some, None, Option, nat_le, slice_index}
use Rattle.std.specs.Int.{w8}
use Rattle.std.proofs.Common.{to_z}
use Rattle.drives.specs.Numbers.{word_at, long_at}
use Rattle.fieldbus.specs.declared.layout.Layout.{Layout}
use Rattle.fieldbus.specs.declared.layout.Layout.TheVariants.{Full, Position, Velocity}
use Rattle.fieldbus.specs.declared.frame.Part.{Part}

-- The bytes of a part: a controlword has 2, a target 4, a mode 1.
abbrev pub part_length : Layout → ℕ
part_length Full = 11
part_length Position = 6
part_length Velocity = 6

-- Before any frame: controlword 0, and nothing else.
abbrev pub nothing_carried : Part
nothing_carried = record { controlword = 0; position = None; velocity = None; mode = None }

-- the signed 8-bit number at a byte, in two's complement
abbrev pub mode_at : List ℕ → ℕ → ℤ
mode_at bytes i = to_z w8 (slice_index bytes i)

-- What the bytes of a part carry.
abbrev pub part_in : Layout → List ℕ → Part
part_in Full bytes =
    record {
      controlword = word_at bytes 0;
      position = Some (long_at bytes 2);
      velocity = Some (long_at bytes 6);
      mode = Some (mode_at bytes 10);
    }
part_in Position bytes = record { controlword = word_at bytes 0; position = Some (long_at bytes 2); velocity = None; mode = None }
part_in Velocity bytes = record { controlword = word_at bytes 0; position = None; velocity = Some (long_at bytes 2); mode = None }

-- The frame has the whole of a part.
abbrev pub has_part : Layout → List ℕ → Bool
has_part layout bytes = nat_le (part_length layout) (length bytes)

-- The next part of a frame, and what is left of the frame after it. A part that is cut short is none.
abbrev pub next_part : Layout → List ℕ → Option Part
next_part layout bytes = cond (has_part layout bytes) (Some (part_in layout bytes)) None

abbrev pub after_part : Layout → List ℕ → List ℕ
after_part layout bytes = cond (has_part layout bytes) (drop (part_length layout) bytes) bytes
