-- What a script's array starts with.
use Rattle.std.specs.Prelude.{◌*◌, ℕ, false, List, [], map, Some, slice_index}
use Rattle.blocks_core.specs.Xor.{zeros}
use Rattle.stripe_layout.specs.Layout.{rows_of}
use Rattle.xor_mode_page.specs.declared.pages.XorPage.{XorPage}
use Rattle.array_journal.specs.Lists.{numbers}
use Rattle.host_scripts.specs.declared.script.Script.{Script}
use Rattle.host_requests.specs.Settings.{setting_of}
use Rattle.unit_plans.specs.Buses.{BusSetting}
use Rattle.xor_target.specs.State.{TargetState}

-- the page of each target: the script's maxima, no delay, and the XOR commands are served
abbrev pub first_page : Script → XorPage
first_page s = record {
  xordis = false;
  max_write = slice_index s.maxima 0;
  max_regenerate = slice_index s.maxima 1;
  max_rebuild = slice_index s.maxima 2;
  delay = 0;
}

-- a target to which nothing happened
abbrev pub first_target : Script → ℕ → TargetState
first_target s number = record {
  number = number;
  targets = s.geometry.targets;
  block = s.geometry.block;
  rows = rows_of s.geometry;
  buffer = s.buffer;
  first = first_page s;
  page = first_page s;
  past = [];
  held = [];
  contents = Some (zeros (rows_of s.geometry * s.geometry.block));
  faults = 0;
  waiting = [];
}

abbrev pub first_targets : Script → List TargetState
first_targets s = map (first_target s) (numbers 0 s.geometry.targets)

-- what a bus for the script is set to
abbrev pub bus_of : Script → BusSetting
bus_of s = record {
  array = setting_of s;
  max_write = (first_page s).max_write;
  max_regenerate = (first_page s).max_regenerate;
  max_rebuild = (first_page s).max_rebuild;
}
