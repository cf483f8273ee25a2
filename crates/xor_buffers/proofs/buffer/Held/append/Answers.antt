use Rattle.std.proofs.Common.{◌≡◌, ◌*◌, ◌≤◌, ◌<◌, ◌+◌, ◌-◌, ◌++◌, ◌∷◌, [], ℕ, List, sym, ap, ◌∙◌, subst, length, None, arith}
use Rattle.xor_buffers.specs.declared.buffer.table.Run.{Run}
use Rattle.xor_buffers.specs.Held.{held_blocks, overlap_of}
use Rattle.xor_buffers.specs.Slots.{Slotted}
use Rattle.xor_buffers.specs.Runs.{AreBetween, runs_of, blocks_in, run_overlap, IsTable}
use Rattle.xor_buffers.specs.Holding.{Holding, room_of, spare_of}
use Rattle.xor_buffers.proofs.HeldViews.{used_is}
use Rattle.std.specs.Vec.{vec_capacity, vec_len}
use Rattle.std.specs.Result.{is_ok}
use Rattle.std.proofs.Math.Nat.{add-mul}
use Rattle.std.proofs.lemmas.Nat.{mul-le}
use Rattle.std.proofs.lemmas.Bool.{cond-true}
use Rattle.blocks_core.specs.Lists.{put}
use Rattle.blocks_core.proofs.BlockLists.{length-put}
use Rattle.xor_buffers.proofs.HeldViews.{bytes_inside, holding}
use Rattle.xor_buffers.proofs.TakenRows.{overlap-runs, held_run}
use Rattle.xor_buffers.proofs.Cuts.{between-append}
use Rattle.xor_buffers.proofs.TableLaws.{runs-few, table-append, held-append}
use Rattle.xor_buffers.proofs.buffer.Held.append.Goals as goal

pub write-requires-clause-inside : goal.write-requires-clause-inside
write-requires-clause-inside c =
    let used : held_blocks c.self.inside.slots.block (runs_of c.self.inside.slots.block c.self.inside.slots.bytes c.self.inside.runs.items) ≡ c.self.inside.used =
    used_is c.self.inside.slots.block c.self.inside.slots.count c.self.inside.capacity c.self.inside.used _ c.self.inside.slots.bytes c.self.inside.runs.items c.self.invariant.0 in
    let spare : c.args.run.count ≤ c.self.inside.slots.count - c.self.inside.used =
    subst (λ (n : ℕ). c.args.run.count ≤ c.self.inside.slots.count - n) used (subst (λ (h : Holding). c.args.run.count ≤ spare_of h) (sym c.self.view_is) c.requires.spare) in
    let room : c.args.run.count ≤ c.self.inside.capacity - c.self.inside.used =
    subst (λ (n : ℕ). c.args.run.count ≤ c.self.inside.capacity - n) used (subst (λ (h : Holding). c.args.run.count ≤ room_of h) (sym c.self.view_is) c.requires.room) in
    let size : length c.args.bytes.now ≡ c.args.run.count * c.self.inside.slots.block =
    c.requires.size ∙ ap (λ (h : Holding). c.args.run.count * h.block) (sym c.self.view_is) in
    let inside : blocks_in c.self.inside.runs.items * c.self.inside.slots.block ≤ length c.self.inside.slots.bytes =
    bytes_inside c.self.inside.slots.block c.self.inside.slots.count c.self.inside.capacity c.self.inside.used (vec_capacity c.self.inside.runs) c.self.inside.slots.bytes c.self.inside.runs.items c.self.invariant.0 in
    let fits : c.self.inside.used + c.args.run.count ≤ c.self.inside.slots.count = omega (arith, spare, c.self.invariant.0.within) in
    let fits_bytes : c.self.inside.used * c.self.inside.slots.block + length c.args.bytes.now ≤ length c.self.inside.slots.bytes =
    omega (
      arith,
      size,
      c.self.invariant.0.whole,
      add-mul c.self.inside.used c.args.run.count c.self.inside.slots.block,
      mul-le (c.self.inside.used + c.args.run.count) c.self.inside.slots.block c.self.inside.slots.count c.self.inside.slots.block fits (omega arith),
    ) in
    fits

pub unwrap-requires : goal.unwrap-requires
unwrap-requires c =
    let used : held_blocks c.self.inside.slots.block (runs_of c.self.inside.slots.block c.self.inside.slots.bytes c.self.inside.runs.items) ≡ c.self.inside.used =
    used_is c.self.inside.slots.block c.self.inside.slots.count c.self.inside.capacity c.self.inside.used _ c.self.inside.slots.bytes c.self.inside.runs.items c.self.invariant.0 in
    let spare : c.args.run.count ≤ c.self.inside.slots.count - c.self.inside.used =
    subst (λ (n : ℕ). c.args.run.count ≤ c.self.inside.slots.count - n) used (subst (λ (h : Holding). c.args.run.count ≤ spare_of h) (sym c.self.view_is) c.requires.spare) in
    let room : c.args.run.count ≤ c.self.inside.capacity - c.self.inside.used =
    subst (λ (n : ℕ). c.args.run.count ≤ c.self.inside.capacity - n) used (subst (λ (h : Holding). c.args.run.count ≤ room_of h) (sym c.self.view_is) c.requires.room) in
    let size : length c.args.bytes.now ≡ c.args.run.count * c.self.inside.slots.block =
    c.requires.size ∙ ap (λ (h : Holding). c.args.run.count * h.block) (sym c.self.view_is) in
    let inside : blocks_in c.self.inside.runs.items * c.self.inside.slots.block ≤ length c.self.inside.slots.bytes =
    bytes_inside c.self.inside.slots.block c.self.inside.slots.count c.self.inside.capacity c.self.inside.used (vec_capacity c.self.inside.runs) c.self.inside.slots.bytes c.self.inside.runs.items c.self.invariant.0 in
    let fits : c.self.inside.used + c.args.run.count ≤ c.self.inside.slots.count = omega (arith, spare, c.self.invariant.0.within) in
    let fits_bytes : c.self.inside.used * c.self.inside.slots.block + length c.args.bytes.now ≤ length c.self.inside.slots.bytes =
    omega (
      arith,
      size,
      c.self.invariant.0.whole,
      add-mul c.self.inside.used c.args.run.count c.self.inside.slots.block,
      mul-le (c.self.inside.used + c.args.run.count) c.self.inside.slots.block c.self.inside.slots.count c.self.inside.slots.block fits (omega arith),
    ) in
    c.push.ensures.succeeds
    (omega (arith, c.self.inside.runs.ok.0, runs-few c.self.inside.runs.items c.self.invariant.0.sound, c.self.invariant.0.counted, fits, c.requires.run.filled, c.self.invariant.0.table))

pub overflow_add-self : goal.overflow_add-self
overflow_add-self c =
    let used : held_blocks c.self.inside.slots.block (runs_of c.self.inside.slots.block c.self.inside.slots.bytes c.self.inside.runs.items) ≡ c.self.inside.used =
    used_is c.self.inside.slots.block c.self.inside.slots.count c.self.inside.capacity c.self.inside.used _ c.self.inside.slots.bytes c.self.inside.runs.items c.self.invariant.0 in
    let spare : c.args.run.count ≤ c.self.inside.slots.count - c.self.inside.used =
    subst (λ (n : ℕ). c.args.run.count ≤ c.self.inside.slots.count - n) used (subst (λ (h : Holding). c.args.run.count ≤ spare_of h) (sym c.self.view_is) c.requires.spare) in
    let room : c.args.run.count ≤ c.self.inside.capacity - c.self.inside.used =
    subst (λ (n : ℕ). c.args.run.count ≤ c.self.inside.capacity - n) used (subst (λ (h : Holding). c.args.run.count ≤ room_of h) (sym c.self.view_is) c.requires.room) in
    let size : length c.args.bytes.now ≡ c.args.run.count * c.self.inside.slots.block =
    c.requires.size ∙ ap (λ (h : Holding). c.args.run.count * h.block) (sym c.self.view_is) in
    let inside : blocks_in c.self.inside.runs.items * c.self.inside.slots.block ≤ length c.self.inside.slots.bytes =
    bytes_inside c.self.inside.slots.block c.self.inside.slots.count c.self.inside.capacity c.self.inside.used (vec_capacity c.self.inside.runs) c.self.inside.slots.bytes c.self.inside.runs.items c.self.invariant.0 in
    let fits : c.self.inside.used + c.args.run.count ≤ c.self.inside.slots.count = omega (arith, spare, c.self.invariant.0.within) in
    let fits_bytes : c.self.inside.used * c.self.inside.slots.block + length c.args.bytes.now ≤ length c.self.inside.slots.bytes =
    omega (
      arith,
      size,
      c.self.invariant.0.whole,
      add-mul c.self.inside.used c.args.run.count c.self.inside.slots.block,
      mul-le (c.self.inside.used + c.args.run.count) c.self.inside.slots.block c.self.inside.slots.count c.self.inside.slots.block fits (omega arith),
    ) in
    omega (arith, fits, c.self.invariant.0.few)

pub invariant_of-self : goal.invariant_of-self
invariant_of-self c =
    let used : held_blocks c.self.inside.slots.block (runs_of c.self.inside.slots.block c.self.inside.slots.bytes c.self.inside.runs.items) ≡ c.self.inside.used =
    used_is c.self.inside.slots.block c.self.inside.slots.count c.self.inside.capacity c.self.inside.used _ c.self.inside.slots.bytes c.self.inside.runs.items c.self.invariant.0 in
    let spare : c.args.run.count ≤ c.self.inside.slots.count - c.self.inside.used =
    subst (λ (n : ℕ). c.args.run.count ≤ c.self.inside.slots.count - n) used (subst (λ (h : Holding). c.args.run.count ≤ spare_of h) (sym c.self.view_is) c.requires.spare) in
    let room : c.args.run.count ≤ c.self.inside.capacity - c.self.inside.used =
    subst (λ (n : ℕ). c.args.run.count ≤ c.self.inside.capacity - n) used (subst (λ (h : Holding). c.args.run.count ≤ room_of h) (sym c.self.view_is) c.requires.room) in
    let size : length c.args.bytes.now ≡ c.args.run.count * c.self.inside.slots.block =
    c.requires.size ∙ ap (λ (h : Holding). c.args.run.count * h.block) (sym c.self.view_is) in
    let inside : blocks_in c.self.inside.runs.items * c.self.inside.slots.block ≤ length c.self.inside.slots.bytes =
    bytes_inside c.self.inside.slots.block c.self.inside.slots.count c.self.inside.capacity c.self.inside.used (vec_capacity c.self.inside.runs) c.self.inside.slots.bytes c.self.inside.runs.items c.self.invariant.0 in
    let fits : c.self.inside.used + c.args.run.count ≤ c.self.inside.slots.count = omega (arith, spare, c.self.invariant.0.within) in
    let fits_bytes : c.self.inside.used * c.self.inside.slots.block + length c.args.bytes.now ≤ length c.self.inside.slots.bytes =
    omega (
      arith,
      size,
      c.self.invariant.0.whole,
      add-mul c.self.inside.used c.args.run.count c.self.inside.slots.block,
      mul-le (c.self.inside.used + c.args.run.count) c.self.inside.slots.block c.self.inside.slots.count c.self.inside.slots.block fits (omega arith),
    ) in
    let free : run_overlap c.args.run.row c.args.run.count c.self.inside.runs.items ≡ None =
    sym (overlap-runs c.self.inside.slots.block c.args.run.row c.args.run.count c.self.inside.runs.items c.self.inside.slots.bytes c.self.invariant.0.some_block inside)
    ∙ ap (λ (h : Holding). overlap_of h.block c.args.run.row c.args.run.count h.list) c.self.view_is ∙ c.requires.free in
    let len : length (put c.self.inside.slots.bytes (c.self.inside.used * c.self.inside.slots.block) c.args.bytes.now) ≡ length c.self.inside.slots.bytes =
    length-put c.self.inside.slots.bytes (c.self.inside.used * c.self.inside.slots.block) c.args.bytes.now fits_bytes in
    let few : vec_len c.self.inside.runs < vec_capacity c.self.inside.runs =
    omega (arith, c.self.inside.runs.ok.0, runs-few c.self.inside.runs.items c.self.invariant.0.sound, c.self.invariant.0.counted, fits, c.requires.run.filled, c.self.invariant.0.table) in
    let pushed : c.push.new.self.items ≡ c.self.inside.runs.items ++ c.args.run ∷ [] =
    c.push.ensures.items ∙ cond-true (is_ok c.push.result) (c.self.inside.runs.items ++ c.args.run ∷ []) c.self.inside.runs.items (c.push.ensures.succeeds few) in
    let table : IsTable c.self.inside.slots.block c.self.inside.slots.count (put c.self.inside.slots.bytes (c.self.inside.used * c.self.inside.slots.block) c.args.bytes.now)
    c.self.inside.capacity (c.self.inside.used + c.args.run.count) (vec_capacity c.push.new.self) (c.self.inside.runs.items ++ c.args.run ∷ []) =
    table-append c.self.inside.slots.block c.self.inside.slots.count c.self.inside.capacity c.self.inside.used (vec_capacity c.self.inside.runs) (vec_capacity c.push.new.self)
    c.self.inside.slots.bytes (put c.self.inside.slots.bytes (c.self.inside.used * c.self.inside.slots.block) c.args.bytes.now) c.self.inside.runs.items c.args.run
    c.self.invariant.0 c.requires.run fits (omega (arith, room, c.self.invariant.0.room)) free len c.push.ensures.capacity in (
      subst (λ (s : Slotted). IsTable s.block s.count s.bytes c.self.inside.capacity (c.self.inside.used + c.args.run.count) (vec_capacity c.push.new.self) c.push.new.self.items)
          (sym c.write.ensures) (subst (λ (l : List Run). IsTable c.self.inside.slots.block c.self.inside.slots.count (put c.self.inside.slots.bytes (c.self.inside.used * c.self.inside.slots.block) c.args.bytes.now) c.self.inside.capacity (c.self.inside.used + c.args.run.count) (vec_capacity c.push.new.self) l) (sym pushed) table),
      subst (AreBetween c.nearer-self-inside.result c.further-self-inside.result) (sym pushed)
          (between-append c.self.inside.first c.self.inside.end c.nearer-self-inside.result c.further-self-inside.result c.self.inside.runs.items c.args.run c.nearer-self-inside.ensures.first c.further-self-inside.ensures.end c.nearer-self-inside.ensures.other (omega (arith, c.further-self-inside.ensures.other, c.from.ensures, c.from-2.ensures)) c.self.invariant.1),
    )

pub returns-clause-list : goal.returns-clause-list
returns-clause-list c =
    let used : held_blocks c.self.inside.slots.block (runs_of c.self.inside.slots.block c.self.inside.slots.bytes c.self.inside.runs.items) ≡ c.self.inside.used =
    used_is c.self.inside.slots.block c.self.inside.slots.count c.self.inside.capacity c.self.inside.used _ c.self.inside.slots.bytes c.self.inside.runs.items c.self.invariant.0 in
    let spare : c.args.run.count ≤ c.self.inside.slots.count - c.self.inside.used =
    subst (λ (n : ℕ). c.args.run.count ≤ c.self.inside.slots.count - n) used (subst (λ (h : Holding). c.args.run.count ≤ spare_of h) (sym c.self.view_is) c.requires.spare) in
    let room : c.args.run.count ≤ c.self.inside.capacity - c.self.inside.used =
    subst (λ (n : ℕ). c.args.run.count ≤ c.self.inside.capacity - n) used (subst (λ (h : Holding). c.args.run.count ≤ room_of h) (sym c.self.view_is) c.requires.room) in
    let size : length c.args.bytes.now ≡ c.args.run.count * c.self.inside.slots.block =
    c.requires.size ∙ ap (λ (h : Holding). c.args.run.count * h.block) (sym c.self.view_is) in
    let inside : blocks_in c.self.inside.runs.items * c.self.inside.slots.block ≤ length c.self.inside.slots.bytes =
    bytes_inside c.self.inside.slots.block c.self.inside.slots.count c.self.inside.capacity c.self.inside.used (vec_capacity c.self.inside.runs) c.self.inside.slots.bytes c.self.inside.runs.items c.self.invariant.0 in
    let fits : c.self.inside.used + c.args.run.count ≤ c.self.inside.slots.count = omega (arith, spare, c.self.invariant.0.within) in
    let fits_bytes : c.self.inside.used * c.self.inside.slots.block + length c.args.bytes.now ≤ length c.self.inside.slots.bytes =
    omega (
      arith,
      size,
      c.self.invariant.0.whole,
      add-mul c.self.inside.used c.args.run.count c.self.inside.slots.block,
      mul-le (c.self.inside.used + c.args.run.count) c.self.inside.slots.block c.self.inside.slots.count c.self.inside.slots.block fits (omega arith),
    ) in
    let free : run_overlap c.args.run.row c.args.run.count c.self.inside.runs.items ≡ None =
    sym (overlap-runs c.self.inside.slots.block c.args.run.row c.args.run.count c.self.inside.runs.items c.self.inside.slots.bytes c.self.invariant.0.some_block inside)
    ∙ ap (λ (h : Holding). overlap_of h.block c.args.run.row c.args.run.count h.list) c.self.view_is ∙ c.requires.free in
    let len : length (put c.self.inside.slots.bytes (c.self.inside.used * c.self.inside.slots.block) c.args.bytes.now) ≡ length c.self.inside.slots.bytes =
    length-put c.self.inside.slots.bytes (c.self.inside.used * c.self.inside.slots.block) c.args.bytes.now fits_bytes in
    let few : vec_len c.self.inside.runs < vec_capacity c.self.inside.runs =
    omega (arith, c.self.inside.runs.ok.0, runs-few c.self.inside.runs.items c.self.invariant.0.sound, c.self.invariant.0.counted, fits, c.requires.run.filled, c.self.invariant.0.table) in
    let pushed : c.push.new.self.items ≡ c.self.inside.runs.items ++ c.args.run ∷ [] =
    c.push.ensures.items ∙ cond-true (is_ok c.push.result) (c.self.inside.runs.items ++ c.args.run ∷ []) c.self.inside.runs.items (c.push.ensures.succeeds few) in
    let table : IsTable c.self.inside.slots.block c.self.inside.slots.count (put c.self.inside.slots.bytes (c.self.inside.used * c.self.inside.slots.block) c.args.bytes.now)
    c.self.inside.capacity (c.self.inside.used + c.args.run.count) (vec_capacity c.push.new.self) (c.self.inside.runs.items ++ c.args.run ∷ []) =
    table-append c.self.inside.slots.block c.self.inside.slots.count c.self.inside.capacity c.self.inside.used (vec_capacity c.self.inside.runs) (vec_capacity c.push.new.self)
    c.self.inside.slots.bytes (put c.self.inside.slots.bytes (c.self.inside.used * c.self.inside.slots.block) c.args.bytes.now) c.self.inside.runs.items c.args.run
    c.self.invariant.0 c.requires.run fits (omega (arith, room, c.self.invariant.0.room)) free len c.push.ensures.capacity in
    let list : runs_of c.self.inside.slots.block (put c.self.inside.slots.bytes (c.self.inside.used * c.self.inside.slots.block) c.args.bytes.now) (c.self.inside.runs.items ++ c.args.run ∷ [])
    ≡ runs_of c.self.inside.slots.block c.self.inside.slots.bytes c.self.inside.runs.items ++ held_run c.args.run c.args.bytes.now ∷ [] =
    held-append c.self.inside.slots.block c.self.inside.used c.self.inside.slots.bytes c.args.bytes.now c.self.inside.runs.items c.args.run c.self.invariant.0.counted size fits_bytes in
    let written : holding c.write.new.self.block c.self.inside.capacity c.write.new.self.count (runs_of c.write.new.self.block c.write.new.self.bytes c.push.new.self.items)
    ≡ holding c.self.inside.slots.block c.self.inside.capacity c.self.inside.slots.count
    (runs_of c.self.inside.slots.block (put c.self.inside.slots.bytes (c.self.inside.used * c.self.inside.slots.block) c.args.bytes.now) (c.self.inside.runs.items ++ c.args.run ∷ [])) =
    ap (λ (s : Slotted). holding s.block c.self.inside.capacity s.count (runs_of s.block s.bytes c.push.new.self.items)) c.write.ensures
    ∙ ap (λ (l : List Run). holding c.self.inside.slots.block c.self.inside.capacity c.self.inside.slots.count
    (runs_of c.self.inside.slots.block (put c.self.inside.slots.bytes (c.self.inside.used * c.self.inside.slots.block) c.args.bytes.now) l)) pushed in
    let now_used : held_blocks c.self.inside.slots.block
    (runs_of c.self.inside.slots.block (put c.self.inside.slots.bytes (c.self.inside.used * c.self.inside.slots.block) c.args.bytes.now) (c.self.inside.runs.items ++ c.args.run ∷ []))
    ≡ c.self.inside.used + c.args.run.count =
    used_is c.self.inside.slots.block c.self.inside.slots.count c.self.inside.capacity (c.self.inside.used + c.args.run.count) _
    (put c.self.inside.slots.bytes (c.self.inside.used * c.self.inside.slots.block) c.args.bytes.now) (c.self.inside.runs.items ++ c.args.run ∷ []) table in
    written
    ∙ ap (holding c.self.inside.slots.block c.self.inside.capacity c.self.inside.slots.count) list
    ∙ ap (λ (h : Holding). holding h.block h.capacity h.slots (h.list ++ held_run c.args.run c.args.bytes.now ∷ [])) c.self.view_is

pub returns-clause-room : goal.returns-clause-room
returns-clause-room c =
    let used : held_blocks c.self.inside.slots.block (runs_of c.self.inside.slots.block c.self.inside.slots.bytes c.self.inside.runs.items) ≡ c.self.inside.used =
    used_is c.self.inside.slots.block c.self.inside.slots.count c.self.inside.capacity c.self.inside.used _ c.self.inside.slots.bytes c.self.inside.runs.items c.self.invariant.0 in
    let spare : c.args.run.count ≤ c.self.inside.slots.count - c.self.inside.used =
    subst (λ (n : ℕ). c.args.run.count ≤ c.self.inside.slots.count - n) used (subst (λ (h : Holding). c.args.run.count ≤ spare_of h) (sym c.self.view_is) c.requires.spare) in
    let room : c.args.run.count ≤ c.self.inside.capacity - c.self.inside.used =
    subst (λ (n : ℕ). c.args.run.count ≤ c.self.inside.capacity - n) used (subst (λ (h : Holding). c.args.run.count ≤ room_of h) (sym c.self.view_is) c.requires.room) in
    let size : length c.args.bytes.now ≡ c.args.run.count * c.self.inside.slots.block =
    c.requires.size ∙ ap (λ (h : Holding). c.args.run.count * h.block) (sym c.self.view_is) in
    let inside : blocks_in c.self.inside.runs.items * c.self.inside.slots.block ≤ length c.self.inside.slots.bytes =
    bytes_inside c.self.inside.slots.block c.self.inside.slots.count c.self.inside.capacity c.self.inside.used (vec_capacity c.self.inside.runs) c.self.inside.slots.bytes c.self.inside.runs.items c.self.invariant.0 in
    let fits : c.self.inside.used + c.args.run.count ≤ c.self.inside.slots.count = omega (arith, spare, c.self.invariant.0.within) in
    let fits_bytes : c.self.inside.used * c.self.inside.slots.block + length c.args.bytes.now ≤ length c.self.inside.slots.bytes =
    omega (
      arith,
      size,
      c.self.invariant.0.whole,
      add-mul c.self.inside.used c.args.run.count c.self.inside.slots.block,
      mul-le (c.self.inside.used + c.args.run.count) c.self.inside.slots.block c.self.inside.slots.count c.self.inside.slots.block fits (omega arith),
    ) in
    let free : run_overlap c.args.run.row c.args.run.count c.self.inside.runs.items ≡ None =
    sym (overlap-runs c.self.inside.slots.block c.args.run.row c.args.run.count c.self.inside.runs.items c.self.inside.slots.bytes c.self.invariant.0.some_block inside)
    ∙ ap (λ (h : Holding). overlap_of h.block c.args.run.row c.args.run.count h.list) c.self.view_is ∙ c.requires.free in
    let len : length (put c.self.inside.slots.bytes (c.self.inside.used * c.self.inside.slots.block) c.args.bytes.now) ≡ length c.self.inside.slots.bytes =
    length-put c.self.inside.slots.bytes (c.self.inside.used * c.self.inside.slots.block) c.args.bytes.now fits_bytes in
    let few : vec_len c.self.inside.runs < vec_capacity c.self.inside.runs =
    omega (arith, c.self.inside.runs.ok.0, runs-few c.self.inside.runs.items c.self.invariant.0.sound, c.self.invariant.0.counted, fits, c.requires.run.filled, c.self.invariant.0.table) in
    let pushed : c.push.new.self.items ≡ c.self.inside.runs.items ++ c.args.run ∷ [] =
    c.push.ensures.items ∙ cond-true (is_ok c.push.result) (c.self.inside.runs.items ++ c.args.run ∷ []) c.self.inside.runs.items (c.push.ensures.succeeds few) in
    let table : IsTable c.self.inside.slots.block c.self.inside.slots.count (put c.self.inside.slots.bytes (c.self.inside.used * c.self.inside.slots.block) c.args.bytes.now)
    c.self.inside.capacity (c.self.inside.used + c.args.run.count) (vec_capacity c.push.new.self) (c.self.inside.runs.items ++ c.args.run ∷ []) =
    table-append c.self.inside.slots.block c.self.inside.slots.count c.self.inside.capacity c.self.inside.used (vec_capacity c.self.inside.runs) (vec_capacity c.push.new.self)
    c.self.inside.slots.bytes (put c.self.inside.slots.bytes (c.self.inside.used * c.self.inside.slots.block) c.args.bytes.now) c.self.inside.runs.items c.args.run
    c.self.invariant.0 c.requires.run fits (omega (arith, room, c.self.invariant.0.room)) free len c.push.ensures.capacity in
    let list : runs_of c.self.inside.slots.block (put c.self.inside.slots.bytes (c.self.inside.used * c.self.inside.slots.block) c.args.bytes.now) (c.self.inside.runs.items ++ c.args.run ∷ [])
    ≡ runs_of c.self.inside.slots.block c.self.inside.slots.bytes c.self.inside.runs.items ++ held_run c.args.run c.args.bytes.now ∷ [] =
    held-append c.self.inside.slots.block c.self.inside.used c.self.inside.slots.bytes c.args.bytes.now c.self.inside.runs.items c.args.run c.self.invariant.0.counted size fits_bytes in
    let written : holding c.write.new.self.block c.self.inside.capacity c.write.new.self.count (runs_of c.write.new.self.block c.write.new.self.bytes c.push.new.self.items)
    ≡ holding c.self.inside.slots.block c.self.inside.capacity c.self.inside.slots.count
    (runs_of c.self.inside.slots.block (put c.self.inside.slots.bytes (c.self.inside.used * c.self.inside.slots.block) c.args.bytes.now) (c.self.inside.runs.items ++ c.args.run ∷ [])) =
    ap (λ (s : Slotted). holding s.block c.self.inside.capacity s.count (runs_of s.block s.bytes c.push.new.self.items)) c.write.ensures
    ∙ ap (λ (l : List Run). holding c.self.inside.slots.block c.self.inside.capacity c.self.inside.slots.count
    (runs_of c.self.inside.slots.block (put c.self.inside.slots.bytes (c.self.inside.used * c.self.inside.slots.block) c.args.bytes.now) l)) pushed in
    let now_used : held_blocks c.self.inside.slots.block
    (runs_of c.self.inside.slots.block (put c.self.inside.slots.bytes (c.self.inside.used * c.self.inside.slots.block) c.args.bytes.now) (c.self.inside.runs.items ++ c.args.run ∷ []))
    ≡ c.self.inside.used + c.args.run.count =
    used_is c.self.inside.slots.block c.self.inside.slots.count c.self.inside.capacity (c.self.inside.used + c.args.run.count) _
    (put c.self.inside.slots.bytes (c.self.inside.used * c.self.inside.slots.block) c.args.bytes.now) (c.self.inside.runs.items ++ c.args.run ∷ []) table in
    ap (λ (h : Holding). room_of h + c.args.run.count) written
    ∙ omega (arith, now_used, used, room, ap room_of c.self.view_is)

pub returns-clause-spare : goal.returns-clause-spare
returns-clause-spare c =
    let used : held_blocks c.self.inside.slots.block (runs_of c.self.inside.slots.block c.self.inside.slots.bytes c.self.inside.runs.items) ≡ c.self.inside.used =
    used_is c.self.inside.slots.block c.self.inside.slots.count c.self.inside.capacity c.self.inside.used _ c.self.inside.slots.bytes c.self.inside.runs.items c.self.invariant.0 in
    let spare : c.args.run.count ≤ c.self.inside.slots.count - c.self.inside.used =
    subst (λ (n : ℕ). c.args.run.count ≤ c.self.inside.slots.count - n) used (subst (λ (h : Holding). c.args.run.count ≤ spare_of h) (sym c.self.view_is) c.requires.spare) in
    let room : c.args.run.count ≤ c.self.inside.capacity - c.self.inside.used =
    subst (λ (n : ℕ). c.args.run.count ≤ c.self.inside.capacity - n) used (subst (λ (h : Holding). c.args.run.count ≤ room_of h) (sym c.self.view_is) c.requires.room) in
    let size : length c.args.bytes.now ≡ c.args.run.count * c.self.inside.slots.block =
    c.requires.size ∙ ap (λ (h : Holding). c.args.run.count * h.block) (sym c.self.view_is) in
    let inside : blocks_in c.self.inside.runs.items * c.self.inside.slots.block ≤ length c.self.inside.slots.bytes =
    bytes_inside c.self.inside.slots.block c.self.inside.slots.count c.self.inside.capacity c.self.inside.used (vec_capacity c.self.inside.runs) c.self.inside.slots.bytes c.self.inside.runs.items c.self.invariant.0 in
    let fits : c.self.inside.used + c.args.run.count ≤ c.self.inside.slots.count = omega (arith, spare, c.self.invariant.0.within) in
    let fits_bytes : c.self.inside.used * c.self.inside.slots.block + length c.args.bytes.now ≤ length c.self.inside.slots.bytes =
    omega (
      arith,
      size,
      c.self.invariant.0.whole,
      add-mul c.self.inside.used c.args.run.count c.self.inside.slots.block,
      mul-le (c.self.inside.used + c.args.run.count) c.self.inside.slots.block c.self.inside.slots.count c.self.inside.slots.block fits (omega arith),
    ) in
    let free : run_overlap c.args.run.row c.args.run.count c.self.inside.runs.items ≡ None =
    sym (overlap-runs c.self.inside.slots.block c.args.run.row c.args.run.count c.self.inside.runs.items c.self.inside.slots.bytes c.self.invariant.0.some_block inside)
    ∙ ap (λ (h : Holding). overlap_of h.block c.args.run.row c.args.run.count h.list) c.self.view_is ∙ c.requires.free in
    let len : length (put c.self.inside.slots.bytes (c.self.inside.used * c.self.inside.slots.block) c.args.bytes.now) ≡ length c.self.inside.slots.bytes =
    length-put c.self.inside.slots.bytes (c.self.inside.used * c.self.inside.slots.block) c.args.bytes.now fits_bytes in
    let few : vec_len c.self.inside.runs < vec_capacity c.self.inside.runs =
    omega (arith, c.self.inside.runs.ok.0, runs-few c.self.inside.runs.items c.self.invariant.0.sound, c.self.invariant.0.counted, fits, c.requires.run.filled, c.self.invariant.0.table) in
    let pushed : c.push.new.self.items ≡ c.self.inside.runs.items ++ c.args.run ∷ [] =
    c.push.ensures.items ∙ cond-true (is_ok c.push.result) (c.self.inside.runs.items ++ c.args.run ∷ []) c.self.inside.runs.items (c.push.ensures.succeeds few) in
    let table : IsTable c.self.inside.slots.block c.self.inside.slots.count (put c.self.inside.slots.bytes (c.self.inside.used * c.self.inside.slots.block) c.args.bytes.now)
    c.self.inside.capacity (c.self.inside.used + c.args.run.count) (vec_capacity c.push.new.self) (c.self.inside.runs.items ++ c.args.run ∷ []) =
    table-append c.self.inside.slots.block c.self.inside.slots.count c.self.inside.capacity c.self.inside.used (vec_capacity c.self.inside.runs) (vec_capacity c.push.new.self)
    c.self.inside.slots.bytes (put c.self.inside.slots.bytes (c.self.inside.used * c.self.inside.slots.block) c.args.bytes.now) c.self.inside.runs.items c.args.run
    c.self.invariant.0 c.requires.run fits (omega (arith, room, c.self.invariant.0.room)) free len c.push.ensures.capacity in
    let list : runs_of c.self.inside.slots.block (put c.self.inside.slots.bytes (c.self.inside.used * c.self.inside.slots.block) c.args.bytes.now) (c.self.inside.runs.items ++ c.args.run ∷ [])
    ≡ runs_of c.self.inside.slots.block c.self.inside.slots.bytes c.self.inside.runs.items ++ held_run c.args.run c.args.bytes.now ∷ [] =
    held-append c.self.inside.slots.block c.self.inside.used c.self.inside.slots.bytes c.args.bytes.now c.self.inside.runs.items c.args.run c.self.invariant.0.counted size fits_bytes in
    let written : holding c.write.new.self.block c.self.inside.capacity c.write.new.self.count (runs_of c.write.new.self.block c.write.new.self.bytes c.push.new.self.items)
    ≡ holding c.self.inside.slots.block c.self.inside.capacity c.self.inside.slots.count
    (runs_of c.self.inside.slots.block (put c.self.inside.slots.bytes (c.self.inside.used * c.self.inside.slots.block) c.args.bytes.now) (c.self.inside.runs.items ++ c.args.run ∷ [])) =
    ap (λ (s : Slotted). holding s.block c.self.inside.capacity s.count (runs_of s.block s.bytes c.push.new.self.items)) c.write.ensures
    ∙ ap (λ (l : List Run). holding c.self.inside.slots.block c.self.inside.capacity c.self.inside.slots.count
    (runs_of c.self.inside.slots.block (put c.self.inside.slots.bytes (c.self.inside.used * c.self.inside.slots.block) c.args.bytes.now) l)) pushed in
    let now_used : held_blocks c.self.inside.slots.block
    (runs_of c.self.inside.slots.block (put c.self.inside.slots.bytes (c.self.inside.used * c.self.inside.slots.block) c.args.bytes.now) (c.self.inside.runs.items ++ c.args.run ∷ []))
    ≡ c.self.inside.used + c.args.run.count =
    used_is c.self.inside.slots.block c.self.inside.slots.count c.self.inside.capacity (c.self.inside.used + c.args.run.count) _
    (put c.self.inside.slots.bytes (c.self.inside.used * c.self.inside.slots.block) c.args.bytes.now) (c.self.inside.runs.items ++ c.args.run ∷ []) table in
    ap (λ (h : Holding). spare_of h + c.args.run.count) written
    ∙ omega (arith, now_used, used, spare, ap spare_of c.self.view_is)
