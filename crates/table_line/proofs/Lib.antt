pub mod LineStores
