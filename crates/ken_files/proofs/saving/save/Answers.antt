use Rattle.std.proofs.Common.{rules, Some, option_map, ap, ◌∙◌}
use Rattle.ken_disk.specs.Story.{Story}
use Rattle.ken_disk.proofs.Told.{told_both}
use Rattle.ken_files.specs.Copies.{IsSyncedBy}
use Rattle.ken_files.proofs.saving.save.Goals as goal

pub returns-clause-saves : goal.returns-clause-saves
returns-clause-saves g c =
    let copied = c.in_ok-copied.ensures in
    record {
      saved = λ tells.
          let was = c.in_ok-file.ensures.finds.opened.speaks tells in
          let is = told_both (IsSyncedBy c.copy-copied.result) _ _ _ was.1 c.copy-copied.ensures.told in
          record {
            file = c.copy-copied.new.file;
            put = c.put_back.ensures.puts.put tells;
            bytes = λ h told. c.put_back.ensures.puts.bytes tells ∙ ap (option_map (λ (s : Story). s.now.seen)) is.1 ∙ ap Some (copied.copied h told is.0 is.1).same;
            copy = copied.copied;
          };
      spoilt = search rules;
      unfinished = search rules;
      opening = search rules;
      no_failed_opening = search rules;
      rise = search rules;
      rooms = search rules;
      others = search rules;
    }
