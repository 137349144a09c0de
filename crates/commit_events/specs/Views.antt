-- What a checked message stands for, and the definitions' faults that those of the code are; of a want of memory they know
-- nothing.
use Rattle.std.specs.Prelude.{⊤, Option, Some, None, option_map}
use Rattle.change_laws.specs.Given as given
use Rattle.car_reader.specs.Views.{sections_of}
use Rattle.signed_commits.specs.Views.{commit_of}
use Rattle.event_laws.specs.Verdict as verdict
use Rattle.event_format.specs.Views.{event_of, form_fault_of}
use Rattle.event_blocks.specs.Views.{blocks_fault_of}
use Rattle.change_proofs.specs.declared.change_fault.ChangeFault.{ChangeFault}
use Rattle.change_proofs.specs.declared.change_fault.ChangeFault.TheVariants as changes
use Rattle.event_format.specs.declared.fault.FormFault.TheVariants as forms
use Rattle.event_blocks.specs.declared.fault.BlocksFault.TheVariants as blocks
use Rattle.commit_events.specs.declared.checked.CheckedCommit.{CheckedCommit}
use Rattle.commit_events.specs.declared.fault.EventFault.{EventFault}
use Rattle.commit_events.specs.declared.fault.EventFault.TheVariants as errors

abbrev pub checked_of : {A : Type 0} → CheckedCommit A → verdict.Checked
checked_of c = record {
  event = event_of c.event;
  commit = commit_of c.commit;
  sections = sections_of c.sections.items;
}

abbrev pub change_fault_of : ChangeFault → Option given.ChangeFault
change_fault_of (changes.BlockMissing c) = Some (given.BlockMissing c)
change_fault_of (changes.BadNode c) = Some (given.BadNode c)
change_fault_of changes.TooDeep = Some given.TooDeep
change_fault_of changes.NotTree = Some given.NotTree
change_fault_of (changes.OtherValue place) = Some (given.OtherValue place)
change_fault_of changes.OtherRoot = Some given.OtherRoot
change_fault_of changes.NoMemory = None

abbrev pub event_fault_of : EventFault → Option verdict.EventFault
event_fault_of (errors.Form f) = option_map verdict.OfForm (form_fault_of f)
event_fault_of (errors.DoubledPath place) = Some (verdict.DoubledPath place)
event_fault_of errors.OtherPrevious = Some verdict.OtherPrevious
event_fault_of (errors.Blocks f) = blocks_fault_of f
event_fault_of (errors.Change f) = option_map verdict.NotShown (change_fault_of f)
event_fault_of errors.NoMemory = None

-- a want of memory is told as that, and not within another fault
abbrev pub HasNoWant : EventFault → Type 0
HasNoWant (errors.Form forms.NoMemory) = ⊥
HasNoWant (errors.Blocks blocks.NoMemory) = ⊥
HasNoWant (errors.Change changes.NoMemory) = ⊥
HasNoWant fault = ⊤
