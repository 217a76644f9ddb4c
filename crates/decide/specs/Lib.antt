pub mod SiteSheet
