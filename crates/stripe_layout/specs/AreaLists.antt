-- Up to eight areas, kept in a place of fixed size.
use Rattle.std.specs.Prelude.{◌≡◌, ◌≤◌, ◌-◌, List, ◌++◌, length, take, replicate}
use Rattle.stripe_layout.specs.declared.areas.Area.{Area}
use Rattle.stripe_layout.specs.declared.areas.Areas.TheInside.{Inside}

-- what is kept where no area is
abbrev pub no_area : Area
no_area = record { unit = 0; stripes = 0 }

abbrev pub areas_in : Inside → List Area
areas_in a = take a.len a.kept

abbrev pub kept_as : List Area → Inside
kept_as areas = record { kept = areas ++ replicate (8 - length areas) no_area; len = length areas }

-- Behind the areas nothing is kept, so that equal lists are kept alike.
pub record IsKept (a : Inside) : Type 0 where
  pub size : length a.kept ≡ 8
  pub few : a.len ≤ 8
  pub blank : a.kept ≡ take a.len a.kept ++ replicate (8 - a.len) no_area
