pub mod SiteLaws
