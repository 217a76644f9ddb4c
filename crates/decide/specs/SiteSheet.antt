-- What the line's rules look at of a farm's sheet.
-- Assumes nothing: these are definitions.
use Rattle.std.specs.Prelude.{◌+◌, false, []}
use Rattle.kinds.specs.declared.Site.{Site}
use Rattle.model.specs.FarmSheet.{FarmSheet, stranger}

-- the sheet of a farm of which three numbers are known. The line's rules look at no more of it: SameSite, of the model's laws, carries
-- what is said here to the whole sheet
unfoldable pub site_sheet : Site → FarmSheet
site_sheet site =
    record {
      entity = site.entity;
      quota = site.quota;
      first = site.first;
      rows = site.quota + 1;
      tester = λ a. false;
      target = λ a. stranger;
      names = [];
    }
