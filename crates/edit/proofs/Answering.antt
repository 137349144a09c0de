-- An edit from what was read and made.
use Rattle.std.proofs.Common.{◌≡◌, ℕ, ◌≤◌, List, ◌++◌, length, map, take, sym, ap, subst, ◌∙◌, arith}
use Rattle.std.specs.Prelude.{Result, Ok, Err, IfOk, OnOk}
use Rattle.std.specs.Arc.{arc_value}
use Rattle.std.proofs.lemmas.List.{length-map, map-append, length-append}
use Rattle.std.proofs.Math.Seq.{take-append_seam}
use Rattle.spec.specs.NodeFormat.{shape_bytes}
use Rattle.spec.specs.Blocks.{IsClashFree}
use Rattle.edit_laws.specs.Changes.{add_of, drop_of}
use Rattle.edit_laws.specs.Laws.Edits.{bytes_of}
use Rattle.batch_laws.specs.Links.{Log, Top, Step}
use Rattle.edit.specs.Tops.{IsEnded}
use Rattle.edit.specs.Batches.{AreReadFor, IsAnswer}
use Rattle.edit.specs.declared.outcome.BatchEdit.{BatchEdit}

module _ (digest : List ℕ → List ℕ) (answer : Step Top) (root : List ℕ) (gone : ℕ) (now : Log)
    (ended : IsEnded answer root gone now) where
  read-is : bytes_of now.read ≡ bytes_of (ended.next.read ++ ended.left)
  read-is = ap bytes_of ended.read

  made-is : bytes_of now.made ≡ bytes_of ended.next.made
  made-is = ap bytes_of ended.made

  gone-is : take gone (bytes_of now.read) ≡ bytes_of ended.next.read
  gone-is =
      ap (take gone) (read-is ∙ map-append shape_bytes ended.next.read ended.left)
      ∙ ap (λ n. take n (bytes_of ended.next.read ++ bytes_of ended.left))
      (ended.gone_is ∙ sym (length-map ended.next.read shape_bytes))
      ∙ take-append_seam (bytes_of ended.next.read) (bytes_of ended.left)

  pub gone-within : gone ≤ length now.read
  gone-within =
      let a = ap length ended.read in
      let c = ended.gone_is in
      let d = length-append ended.next.read ended.left in
      omega (arith, a, c, d)

  pub is-answer : (add drop : List (List ℕ)) → add ≡ add_of digest (bytes_of now.read) (bytes_of now.made)
      → drop ≡ drop_of digest (bytes_of now.made) (take gone (bytes_of now.read))
      → (IsClashFree digest (bytes_of now.read) → IsClashFree digest (add ++ bytes_of now.read))
      → (IsClashFree digest (bytes_of now.read) → IsClashFree digest (bytes_of now.made ++ bytes_of now.read))
      → IsAnswer digest answer root add drop
  is-answer add drop added dropped free all_free = record {
    left = ended.left;
    log = ended.next;
    is = ended.is;
    added = added ∙ ap (λ bs. add_of digest bs (bytes_of now.made)) read-is
        ∙ ap (add_of digest (bytes_of (ended.next.read ++ ended.left))) made-is;
    dropped = dropped ∙ ap (λ bs. drop_of digest bs (take gone (bytes_of now.read))) made-is
        ∙ ap (drop_of digest (bytes_of ended.next.made)) gone-is;
    free = subst (λ bs. IsClashFree digest bs → IsClashFree digest (add ++ bs)) read-is free;
    all_free = subst (λ bs. IsClashFree digest (bytes_of (ended.next.read ++ ended.left))
        → IsClashFree digest (bs ++ bytes_of (ended.next.read ++ ended.left))) made-is
        (subst (λ bs. IsClashFree digest bs → IsClashFree digest (bytes_of now.made ++ bs)) read-is all_free);
  }

  -- the same of what may be refused
  pub answered : {D A E : Type 0} (r : Result (BatchEdit D A) E) → IfOk r (λ edit. edit.root ≡ root)
      → IfOk r (λ edit. map arc_value edit.add.items ≡ add_of digest (bytes_of now.read) (bytes_of now.made))
      → IfOk r (λ edit. edit.drop.items ≡ drop_of digest (bytes_of now.made) (take gone (bytes_of now.read)))
      → (IsClashFree digest (bytes_of now.read)
      → IfOk r (λ edit. IsClashFree digest (map arc_value edit.add.items ++ bytes_of now.read)))
      → (IsClashFree digest (bytes_of now.read) → OnOk r (IsClashFree digest (bytes_of now.made ++ bytes_of now.read)))
      → IfOk r (λ edit. IsAnswer digest answer edit.root (map arc_value edit.add.items) edit.drop.items)
  answered (Ok edit) is added dropped free all_free =
      subst (λ top. IsAnswer digest answer top (map arc_value edit.add.items) edit.drop.items) (sym is)
      (is-answer (map arc_value edit.add.items) edit.drop.items added dropped free all_free)
  answered (Err fault) is added dropped free all_free = tt

  -- and of the nodes that were read
  pub read-for : {D A E : Type 0} (r : Result (BatchEdit D A) E) → IfOk r (λ edit. edit.root ≡ root)
      → IfOk r (λ edit. map arc_value edit.read.items ≡ bytes_of now.read)
      → IfOk r (λ edit. AreReadFor answer edit.root (map arc_value edit.read.items))
  read-for (Ok edit) is read = record {
    left = ended.left;
    log = ended.next;
    is = subst (λ (top : List ℕ). answer ≡ Ok ((top, ended.left), ended.next)) (sym is) ended.is;
    read_is = read ∙ read-is;
  }
  read-for (Err fault) is read = tt
