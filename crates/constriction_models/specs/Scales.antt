-- The value of a `Scale`, as a multiple of 2 ^ -16.
use Rattle.std.specs.Prelude.{ℕ}
use Rattle.constriction_models.specs.declared.location_scale.scale.Scale.{Scale}

-- The scale as a multiple of 2 ^ -16.
abbrev pub scale_number : {D : Type 0} {standard : _} → Scale D standard → ℕ
scale_number s = s.scale
