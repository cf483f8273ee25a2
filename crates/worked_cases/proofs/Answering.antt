-- An answer as it is told is the one that a top call said.
use Rattle.std.proofs.Common.{◌≡◌, ℕ, List, [], Some, Result, Ok, Err, IfOk, sym, subst}
use Rattle.array_journal.specs.declared.entry.Entry.{Entry}
use Rattle.blocks_core.specs.declared.memory.Memory.{Memory}
use Rattle.worked_cases.specs.declared.answers.TopAnswer.{TopAnswer}
use Rattle.worked_cases.specs.Answers.{ToolSays, CheckSays, ServeSays, IsToolAnswer, IsCheckAnswer, IsServeAnswer}

pub tool-told : (words : List (List ℕ)) (left input out new_out notes new_notes : List ℕ) (status : ℕ) (journal : List Entry) (result : Result TopAnswer Memory) →
    input ≡ left → out ≡ [] → notes ≡ [] →
    IfOk result (λ answer. answer.status ≡ status) → IfOk result (λ answer. answer.out ≡ new_out) → IfOk result (λ answer. answer.notes ≡ new_notes) →
    ToolSays words (Some input) (Some out) (Some new_out) (Some notes) (Some new_notes) status journal → IfOk result (IsToolAnswer words left)
tool-told words left input out new_out notes new_notes status journal (Ok answer) i o n s written noted says =
    let at_input = subst (λ (x : List ℕ). ToolSays words (Some x) (Some out) (Some new_out) (Some notes) (Some new_notes) status journal) i says in
    let at_out = subst (λ (x : List ℕ). ToolSays words (Some left) (Some x) (Some new_out) (Some notes) (Some new_notes) status journal) o at_input in
    let at_new = subst (λ (x : List ℕ). ToolSays words (Some left) (Some []) (Some x) (Some notes) (Some new_notes) status journal) (sym written) at_out in
    let at_notes = subst (λ (x : List ℕ). ToolSays words (Some left) (Some []) (Some answer.out) (Some x) (Some new_notes) status journal) n at_new in
    let at_noted = subst (λ (x : List ℕ). ToolSays words (Some left) (Some []) (Some answer.out) (Some []) (Some x) status journal) (sym noted) at_notes in
    (journal, subst (λ (x : ℕ). ToolSays words (Some left) (Some []) (Some answer.out) (Some []) (Some answer.notes) x journal) (sym s) at_noted)
tool-told words left input out new_out notes new_notes status journal (Err error) i o n s written noted says = tt

pub check-told : (words : List (List ℕ)) (left input out new_out notes new_notes : List ℕ) (status : ℕ) (result : Result TopAnswer Memory) →
    input ≡ left → out ≡ [] → notes ≡ [] →
    IfOk result (λ answer. answer.status ≡ status) → IfOk result (λ answer. answer.out ≡ new_out) → IfOk result (λ answer. answer.notes ≡ new_notes) →
    CheckSays words (Some input) (Some out) (Some new_out) (Some notes) (Some new_notes) status → IfOk result (IsCheckAnswer words left)
check-told words left input out new_out notes new_notes status (Ok answer) i o n s written noted says =
    let at_input = subst (λ (x : List ℕ). CheckSays words (Some x) (Some out) (Some new_out) (Some notes) (Some new_notes) status) i says in
    let at_out = subst (λ (x : List ℕ). CheckSays words (Some left) (Some x) (Some new_out) (Some notes) (Some new_notes) status) o at_input in
    let at_new = subst (λ (x : List ℕ). CheckSays words (Some left) (Some []) (Some x) (Some notes) (Some new_notes) status) (sym written) at_out in
    let at_notes = subst (λ (x : List ℕ). CheckSays words (Some left) (Some []) (Some answer.out) (Some x) (Some new_notes) status) n at_new in
    let at_noted = subst (λ (x : List ℕ). CheckSays words (Some left) (Some []) (Some answer.out) (Some []) (Some x) status) (sym noted) at_notes in
    subst (λ (x : ℕ). CheckSays words (Some left) (Some []) (Some answer.out) (Some []) (Some answer.notes) x) (sym s) at_noted
check-told words left input out new_out notes new_notes status (Err error) i o n s written noted says = tt

pub serve-told : (words : List (List ℕ)) (left input out new_out notes new_notes : List ℕ) (status : ℕ) (result : Result TopAnswer Memory) →
    input ≡ left → out ≡ [] → notes ≡ [] →
    IfOk result (λ answer. answer.status ≡ status) → IfOk result (λ answer. answer.out ≡ new_out) → IfOk result (λ answer. answer.notes ≡ new_notes) →
    ServeSays words (Some input) (Some out) (Some new_out) (Some notes) (Some new_notes) status → IfOk result (IsServeAnswer words left)
serve-told words left input out new_out notes new_notes status (Ok answer) i o n s written noted says =
    let at_input = subst (λ (x : List ℕ). ServeSays words (Some x) (Some out) (Some new_out) (Some notes) (Some new_notes) status) i says in
    let at_out = subst (λ (x : List ℕ). ServeSays words (Some left) (Some x) (Some new_out) (Some notes) (Some new_notes) status) o at_input in
    let at_new = subst (λ (x : List ℕ). ServeSays words (Some left) (Some []) (Some x) (Some notes) (Some new_notes) status) (sym written) at_out in
    let at_notes = subst (λ (x : List ℕ). ServeSays words (Some left) (Some []) (Some answer.out) (Some x) (Some new_notes) status) n at_new in
    let at_noted = subst (λ (x : List ℕ). ServeSays words (Some left) (Some []) (Some answer.out) (Some []) (Some x) status) (sym noted) at_notes in
    subst (λ (x : ℕ). ServeSays words (Some left) (Some []) (Some answer.out) (Some []) (Some answer.notes) x) (sym s) at_noted
serve-told words left input out new_out notes new_notes status (Err error) i o n s written noted says = tt
